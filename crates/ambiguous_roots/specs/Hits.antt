-- The object that a word hits, by the words of a space and by a heap for which they stand.
use Rattle.std.specs.Prelude.{◌≡◌, ℕ, List, Option, Some, true, IfSome}
use Rattle.heap_terms.specs.declared.pages.Entry.{Entry}
use Rattle.heap_terms.specs.Heap.{NamedHeap, object_at}
use Rattle.heap_terms.specs.LaidOut.{ObjectStart, StartsAt}
use Rattle.heap_terms.specs.Layout.{reference_word}
use Rattle.heap_terms.specs.Objects.{Object}
use Rattle.heap_terms.specs.Roots.{hits}

-- by the words an object starts at an index, and a word refers to it
pub record HitsStart (words : List ℕ) (pages : List Entry) (word index : ℕ) : Type 0 where
  pub start : ObjectStart
  pub starts : StartsAt words pages start
  pub here : start.index ≡ index
  pub is : word ≡ reference_word start.index start.kind

-- an object of a heap begins at an index, and a word hits it
pub record IsHitAt (a : NamedHeap) (word index : ℕ) : Type 0 where
  pub name : ℕ
  pub o : Object
  pub there : object_at a.objects name ≡ Some o
  pub here : o.place ≡ index
  pub hit : hits (Some o) word ≡ true

-- an answer is the place of the object of a heap that a word hits, none where it hits none
pub record IsHitOf (a : NamedHeap) (word : ℕ) (answer : Option ℕ) : Type 0 where
  pub object : IfSome answer (IsHitAt a word)
  pub met : (name : ℕ) (o : Object) → object_at a.objects name ≡ Some o → hits (Some o) word ≡ true → answer ≡ Some o.place
