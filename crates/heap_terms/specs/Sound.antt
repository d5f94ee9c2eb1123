-- Sound heaps: what must hold of the objects, the pages, the finalizers and the queue of any heap, whatever made it. All
-- of it is this project's own. Left free is what lies in words that belong to no object: below a page's fill these are
-- fillers, where the words stand for the heap.
use Rattle.std.specs.Prelude.{◌≡◌, ◌≢◌, ℕ, ◌^◌, ◌<◌, ◌≤◌, List, All, Option, Some, IsSome}
use Rattle.heap_terms.specs.declared.limits.TheConstants.{OLDEST_GENERATION}
use Rattle.heap_terms.specs.declared.pages.Entry.{Entry}
use Rattle.heap_terms.specs.Heap.{NamedHeap, object_at, entry_at}
use Rattle.heap_terms.specs.Living.{HoldsLiving, IsShaped, AreBelow}
use Rattle.heap_terms.specs.Objects.{Object}
use Rattle.heap_terms.specs.OnPages.{IsPlaced, AreApart, IsEntry, IsInRun}

-- an object is sound among these objects and on these pages: it is of one of the seven generations, has the shape of its
-- kind, holds living values, and lies where it may
pub record IsObject (objects : List (Option Object)) (pages : List Entry) (o : Object) : Type 0 where
  pub generation : o.generation ≤ OLDEST_GENERATION
  pub shape : IsShaped o.contents
  pub contents : HoldsLiving objects o.contents
  pub placed : IsPlaced pages o

-- a finalizer is of an object that is there
pub record IsFinalizer (objects : List (Option Object)) (entry : ℕ × ℕ) : Type 0 where
  pub there : IsSome (object_at objects entry.0)
  pub id : entry.1 < 2 ^ 32

-- each object is sound, two share no word, each page in use is of a generation and in its run, finalizers are of objects
-- that are there, and ids are below 2^32
pub record IsSound (a : NamedHeap) : Type 0 where
  pub objects : (name : ℕ) (o : Object) → object_at a.objects name ≡ Some o → IsObject a.objects a.pages o
  pub apart : (x y : ℕ) (o q : Object) → x ≢ y → object_at a.objects x ≡ Some o → object_at a.objects y ≡ Some q → AreApart o q
  pub entries : (page : ℕ) → IsEntry (entry_at a.pages page)
  pub runs : (page : ℕ) → IsInRun a.pages page (entry_at a.pages page)
  pub finalizers : All (IsFinalizer a.objects) a.finalizers
  pub queue : AreBelow (2 ^ 32) a.queue
