use Rattle.std.proofs.Common.{refl}
use Rattle.heap_terms.specs.Collections.{collected}
use Rattle.heap_terms.specs.Heap.{start}
use Rattle.heap_terms.specs.Histories.{next, after}
use Rattle.heap_terms.specs.Outcomes.{outcome_of}
use Rattle.heap_terms.specs.Passes.{after_pass}
use Rattle.heap_terms.specs.Placement.{placement}
use Rattle.heap_terms.specs.Policy.{is_raised, is_continued}
use Rattle.heap_terms.specs.Regions.{opened, committed}
use Rattle.pass_laws.specs.Examples.Making.{heap_at, quiet}
use Rattle.pass_laws.specs.Examples.ThreeThreads.{script, first, second, third, told_first, told_young, told_old, told_last}
use Rattle.pass_laws.proofs.Checking.{grown}
use Rattle.pass_laws.proofs.LiveNames.{step}
use Rattle.pass_laws.proofs.Told.{told_passes}
use Rattle.pass_laws.proofs.examples.three_threads_collect.Goals as goal

pub returns : goal.returns
unfolding start next after outcome_of opened committed placement after_pass collected is_raised is_continued step grown
returns c = (
  told_passes (heap_at script first) 0 0 4 told_first refl refl refl
      (record { placed = refl; culls = refl; breaks = refl; queued = refl; freed = refl; dead = refl; kept = refl }),
  told_passes (heap_at script second) 0 1 4 told_young refl refl refl
      (record { placed = refl; culls = refl; breaks = refl; queued = refl; freed = refl; dead = refl; kept = refl }),
  told_passes (after_pass (heap_at script second) told_young) 1 1 4 told_old refl refl refl
      (record { placed = refl; culls = refl; breaks = refl; queued = refl; freed = refl; dead = refl; kept = refl }),
  told_passes (heap_at script third) 0 1 4 (quiet 0 1) refl refl refl
      (record { placed = refl; culls = refl; breaks = refl; queued = refl; freed = refl; dead = refl; kept = refl }),
  told_passes (after_pass (heap_at script third) (quiet 0 1)) 1 2 4 told_last refl refl refl
      (record { placed = refl; culls = refl; breaks = refl; queued = refl; freed = refl; dead = refl; kept = refl }),
)
