use Rattle.std.proofs.Common.{refl}
use Rattle.heap_terms.specs.Heap.{start}
use Rattle.heap_terms.specs.Histories.{next, after}
use Rattle.heap_terms.specs.Outcomes.{outcome_of}
use Rattle.heap_terms.specs.Placement.{placement}
use Rattle.heap_terms.specs.Regions.{opened, committed}
use Rattle.pass_laws.specs.Examples.Making.{heap_at}
use Rattle.pass_laws.specs.Examples.Finalizers.{script, history, told}
use Rattle.pass_laws.proofs.Checking.{grown}
use Rattle.pass_laws.proofs.LiveNames.{step}
use Rattle.pass_laws.proofs.Told.{told_passes}
use Rattle.pass_laws.proofs.examples.finalizers_are_queued.Goals as goal

pub returns : goal.returns
unfolding start next after outcome_of opened committed placement step grown
returns c = told_passes (heap_at script history) 0 0 4 told refl refl refl
    (record { placed = refl; culls = refl; breaks = refl; queued = refl; freed = refl; dead = refl; kept = refl })
