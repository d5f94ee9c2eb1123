-- What stands for the objects that remain, once dead pairs are culled and weak pointers broken.
use Rattle.heap_terms.specs.Heap.{NamedHeap}
use Rattle.heap_terms.specs.Objects.{Object}
use Rattle.heap_terms.specs.Stands.{SlotsStand, KeptStand}
use Rattle.heap_terms.specs.Survival.{surviving}
use Rattle.copy_space.specs.Moved.{new_of, objects_now}
use Rattle.copy_space.specs.Settled.{is_settled}
use Rattle.copy_space.specs.State.{CopyState}

-- the words of a settled object stand for what survives of it, all places being those after the pass
pub record StandsAfter (a : NamedHeap) (s t : CopyState) (o : Object) : Type 0 where
  pub slots : SlotsStand (objects_now a s.moves) t.words (new_of s.moves o.place) (surviving (is_settled a s) o.contents)
  pub kept : KeptStand t.words (new_of s.moves o.place) (surviving (is_settled a s) o.contents)
