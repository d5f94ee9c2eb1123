use Rattle.std.proofs.Common.{refl}
use Rattle.heap_terms.specs.Collections.{collected}
use Rattle.heap_terms.specs.Heap.{start}
use Rattle.heap_terms.specs.Histories.{next, after}
use Rattle.heap_terms.specs.Outcomes.{outcome_of}
use Rattle.heap_terms.specs.Passes.{after_pass}
use Rattle.heap_terms.specs.Placement.{placement}
use Rattle.heap_terms.specs.Policy.{is_raised, is_continued}
use Rattle.heap_terms.specs.Regions.{opened, committed}
use Rattle.pass_laws.specs.Examples.Making.{heap_at}
use Rattle.pass_laws.specs.Examples.Exactness.{script, history, told, later, told_later}
use Rattle.pass_laws.proofs.Checking.{grown}
use Rattle.pass_laws.proofs.LiveNames.{step}
use Rattle.pass_laws.proofs.Told.{told_passes}
use Rattle.pass_laws.proofs.examples.an_ambiguous_cell_pins.Goals as goal

pub returns : goal.returns
unfolding start next after outcome_of opened committed placement after_pass collected is_raised is_continued step grown
returns c = (
  told_passes (heap_at script history) 0 0 4 told refl refl refl
      (record { placed = refl; culls = refl; breaks = refl; queued = refl; freed = refl; dead = refl; kept = refl }),
  told_passes (heap_at script later) 0 1 4 told_later refl refl refl
      (record { placed = refl; culls = refl; breaks = refl; queued = refl; freed = refl; dead = refl; kept = refl }),
)
