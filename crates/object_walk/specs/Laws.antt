-- Laws of walks: the words of a page tell its pieces, and where they stand for a heap these are the heap's objects, with
-- fillers between them.
use Rattle.std.specs.Prelude.{◌≡◌, ℕ, ◌+◌, ◌*◌, ◌<◌, ◌≤◌, List, [], ◌∷◌, Some}
use Rattle.heap_terms.specs.Heap.{NamedHeap, object_at}
use Rattle.heap_terms.specs.Layout.{page_words}
use Rattle.heap_terms.specs.LaidOut.{Piece, AreLaidOut, IsLaidOut, ObjectStart, AreObjectsOn, HasObject, AreHeapsObjects}
use Rattle.heap_terms.specs.Objects.{Object}
use Rattle.heap_terms.specs.Sound.{IsSound}
use Rattle.heap_terms.specs.Stands.{WordsStand}

-- words are laid out in one way only
abbrev pub PiecesAreDetermined : Type 0
PiecesAreDetermined = (words : List ℕ) (from end : ℕ) (pieces others : List Piece) → AreLaidOut words from end pieces →
    AreLaidOut words from end others → pieces ≡ others

-- where words stand for a sound heap, each page can be walked
abbrev pub PagesOfHeapsAreLaidOut : Type 0
PagesOfHeapsAreLaidOut = (a : NamedHeap) (words : List ℕ) (page : ℕ) → IsSound a → WordsStand a words → IsLaidOut words a.pages page

-- and the objects that a walk finds are all the heap's objects that begin on the page, in order
abbrev pub WalksMeetTheObjects : Type 0
WalksMeetTheObjects = (a : NamedHeap) (words : List ℕ) (page : ℕ) (starts : List ObjectStart) → IsSound a → WordsStand a words →
    AreObjectsOn words a.pages page starts → AreHeapsObjects a (page_words * page) (page_words * (page + 1)) starts

-- no object of a heap begins from an index on and below an end
abbrev pub BeginsNoneIn : NamedHeap → ℕ → ℕ → Type 0
BeginsNoneIn a from end = (name : ℕ) (o : Object) → object_at a.objects name ≡ Some o → from ≤ o.place → o.place < end → ⊥

-- the first of a heap's objects on a stretch of words, and the others behind it
pub record IsFirstObject (a : NamedHeap) (from end : ℕ) (first : ObjectStart) (others : List ObjectStart) : Type 0 where
  pub there : HasObject a first
  pub from_on : from ≤ first.index
  pub below : first.index < end
  pub before : BeginsNoneIn a from first.index
  pub behind : AreHeapsObjects a (first.index + 1) end others

-- so whoever goes along a walk knows what lies between two objects that it gives one after the other, and behind the last
abbrev pub ObjectsComeInOrder : Type 0
ObjectsComeInOrder =
    ((a : NamedHeap) (from end : ℕ) (first : ObjectStart) (others : List ObjectStart) → AreHeapsObjects a from end (first ∷ others) →
    IsFirstObject a from end first others)
    × ((a : NamedHeap) (from end : ℕ) → AreHeapsObjects a from end [] → BeginsNoneIn a from end)
