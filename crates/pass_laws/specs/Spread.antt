-- Objects while a pass moves them: each at its place so far. They lie as they must, and apart. This is the project's own.
-- The order in which they are taken is left free.
use Rattle.std.specs.Prelude.{◌≡◌, ◌≢◌, ℕ, List, Option, Some, None}
use Rattle.heap_terms.specs.declared.events.Placing.{Placing}
use Rattle.heap_terms.specs.declared.pages.Entry.{Entry}
use Rattle.heap_terms.specs.Heap.{object_at}
use Rattle.heap_terms.specs.Objects.{Object}
use Rattle.heap_terms.specs.OnPages.{IsPlaced, AreApart}
use Rattle.heap_terms.specs.Passes.{moved_to}
use Rattle.heap_terms.specs.Placement.{scratch}

-- an object at another place, with the scratch generation
abbrev pub moved_object : Object → ℕ → Object
moved_object o index = record o { generation = scratch; place = index }

-- an object at its place so far
abbrev pub settled : Option ℕ → Object → Object
settled None o = o
settled (Some index) o = moved_object o index

-- the objects, at their places after some moves, lie as they must and apart
pub record IsSpread (objects : List (Option Object)) (moves : List Placing) (pages : List Entry) : Type 0 where
  pub placed : (x : ℕ) (o : Object) → object_at objects x ≡ Some o → IsPlaced pages (settled (moved_to moves x) o)
  pub apart : (x y : ℕ) (o q : Object) → x ≢ y → object_at objects x ≡ Some o → object_at objects y ≡ Some q →
      AreApart (settled (moved_to moves x) o) (settled (moved_to moves y) q)
