-- The objects of a generation that some word of a list hits: those that a pass pins, where these are its ambiguous roots.
use Rattle.std.specs.Prelude.{◌≡◌, ℕ, ◌*◌, ◌<◌, ◌≤◌, List, [], All, AllPairs, length, replicate, Some, Bool, true, false, nat_eq}
use Rattle.std.specs.List.{list_any}
use Rattle.heap_terms.specs.declared.pages.Entry.{Entry}
use Rattle.heap_terms.specs.Generations.{is_of}
use Rattle.heap_terms.specs.Heap.{NamedHeap, object_at}
use Rattle.heap_terms.specs.Objects.{Object}
use Rattle.heap_terms.specs.Roots.{hits}
use Rattle.heap_terms.specs.Sound.{IsSound}
use Rattle.heap_terms.specs.Stands.{WordsStand}
use Rattle.pin_set.specs.Starts.{Starts}

-- an object of a generation begins at an index, and some word of a list hits it
pub record IsHitStart (a : NamedHeap) (g : ℕ) (words : List ℕ) (index : ℕ) : Type 0 where
  pub name : ℕ
  pub o : Object
  pub there : object_at a.objects name ≡ Some o
  pub here : o.place ≡ index
  pub of_it : is_of a g name ≡ true
  pub hit : list_any (hits (Some o)) words ≡ true

-- the starts of all such objects, each once, ascending
pub record AreHitStarts (a : NamedHeap) (g : ℕ) (words : List ℕ) (starts : List ℕ) : Type 0 where
  pub each : All (IsHitStart a g words) starts
  pub all : (name : ℕ) (o : Object) → object_at a.objects name ≡ Some o → is_of a g name ≡ true → list_any (hits (Some o)) words ≡ true →
      list_any (nat_eq o.place) starts ≡ true
  pub ascending : AllPairs (λ (x y : ℕ). x < y) starts

-- Pins can be found: words and pages stand for a sound heap, the set is empty and has room for as many starts as there are
-- ambiguous words, and there is a hint for each double word, none of which is set.
pub record CanFindPins (a : NamedHeap) (words : List ℕ) (pages : List Entry) (ambiguous : List ℕ) (hints : List Bool) (pins : Starts) : Type 0 where
  pub sound : IsSound a
  pub stand : WordsStand a words
  pub pages_are : pages ≡ a.pages
  pub empty : pins.listed ≡ []
  pub room : length ambiguous ≤ pins.most
  pub hints_long : 2 * length hints ≡ length words
  pub unhinted : hints ≡ replicate (length hints) false
