-- A record that the tests accept, and whose lists are those of the heap, tells a pass.
use Rattle.std.proofs.Common.{◌≡◌, ℕ, Bool, true}
use Rattle.std.proofs.lemmas.Bool.{and_parts}
use Rattle.std.specs.Prelude.{◌&&◌, not, ◌==◌}
use Rattle.heap_terms.specs.declared.events.PassRecord.{PassRecord}
use Rattle.heap_terms.specs.declared.events.Placing.{Placing}
use Rattle.heap_terms.specs.Heap.{NamedHeap}
use Rattle.heap_terms.specs.Passes.{IsPass, order_of, remains, freed_of, dead_of, kept_of}
use Rattle.heap_terms.specs.Placement.{placement}
use Rattle.heap_terms.specs.Survival.{culls_of, breaks_of, queued_of}
use Rattle.pass_laws.proofs.Checking.{is_live_set, are_movable, all_pairs, are_pins, checked_live, checked_movable, checked_once, checked_pins}

-- the tests, with so many steps for the live names to grow
abbrev pub passes_tests : NamedHeap → ℕ → ℕ → PassRecord → Bool
passes_tests a g k r =
    is_live_set a g k (remains a r) && (are_movable a g r.moves && (all_pairs (λ (m n : Placing). not (m.name == n.name)) r.moves && are_pins a g r.pins))

-- the equations
pub record HasLists (a : NamedHeap) (r : PassRecord) : Type 0 where
  pub placed : r.moves ≡ (placement a (order_of r)).moves
  pub culls : r.culls ≡ culls_of a (remains a r)
  pub breaks : r.breaks ≡ breaks_of a (remains a r)
  pub queued : r.queued ≡ queued_of a (remains a r)
  pub freed : r.freed ≡ freed_of a r
  pub dead : r.dead ≡ dead_of a r
  pub kept : r.kept ≡ kept_of a r

pub told_passes : (a : NamedHeap) (g h k : ℕ) (r : PassRecord) → r.generation ≡ g → r.target ≡ h → passes_tests a g k r ≡ true → HasLists a r → IsPass a g h r
told_passes a g h k r generation target tests lists =
    let one = and_parts (is_live_set a g k (remains a r)) _ tests in
    let two = and_parts (are_movable a g r.moves) _ one.1 in
    let three = and_parts (all_pairs (λ (m n : Placing). not (m.name == n.name)) r.moves) _ two.1 in
    record {
      generation = generation;
      target = target;
      live = checked_live a g k r one.0;
      movable = checked_movable a g r.moves two.0;
      once = checked_once r.moves three.0;
      placed = lists.placed;
      pins = checked_pins a g r.pins three.1;
      culls = lists.culls;
      breaks = lists.breaks;
      queued = lists.queued;
      freed = lists.freed;
      dead = lists.dead;
      kept = lists.kept;
    }
