-- What pinning along a walk needs and leaves.
use Rattle.std.specs.Prelude.{◌≡◌, ℕ, ◌+◌, ◌-◌, ◌*◌, ◌/◌, ◌^◌, ◌<◌, ◌≤◌, ◌==◌, ◌&&◌, List, [], All, AllPairs, filter, length, map, count_by, Option, Some, None, Bool, true, false, nat_eq, nat_lt}
use Rattle.std.specs.List.{list_any}
use Rattle.heap_terms.specs.declared.kinds.Kind.{Kind}
use Rattle.heap_terms.specs.declared.pages.Entry.{Entry}
use Rattle.heap_terms.specs.declared.pages.Entry.TheVariants.{Free, Used}
use Rattle.heap_terms.specs.Generations.{is_of, names}
use Rattle.heap_terms.specs.Heap.{NamedHeap, object_at}
use Rattle.heap_terms.specs.Layout.{reference_word}
use Rattle.heap_terms.specs.Objects.{Object}
use Rattle.heap_terms.specs.Roots.{hits}
use Rattle.heap_terms.specs.Sound.{IsSound}
use Rattle.heap_terms.specs.Stands.{WordsStand}
use Rattle.pin_set.specs.Starts.{Starts}
use Rattle.object_walk.specs.declared.found.Found.{Found}
use Rattle.ambiguous_roots.specs.Hinted.{hint_of, IsPointedAt}
use Rattle.ambiguous_roots.specs.HitStarts.{IsHitStart}

-- whether some word of a list refers to an object of a kind that begins at an index
abbrev pub is_referred : List ℕ → ℕ → Kind → Bool
is_referred words index kind = list_any (λ word. word == reference_word index kind) words

-- where those of some objects begin to which a word of a list refers
abbrev pub referred : List ℕ → List Found → List ℕ
referred words found = map (λ (f : Found). f.index) (filter (λ (f : Found). is_referred words f.index f.kind) found)

-- objects can be pinned: each has its hint where a word refers to it, none is pinned yet, they ascend, and there is room
pub record CanPinAll (words : List ℕ) (hints : List Bool) (pins : Starts) (found : List Found) : Type 0 where
  pub inside : All (λ (f : Found). f.index / 2 < length hints) found
  pub hinted : All (λ (f : Found). is_referred words f.index f.kind ≡ true → hint_of hints (f.index / 2) ≡ true) found
  pub unpinned : All (λ (f : Found). list_any (nat_eq f.index) pins.listed ≡ false) found
  pub ascending : AllPairs (λ (f k : Found). f.index < k.index) found
  pub room : length pins.listed + length (referred words found) ≤ pins.most
  pub small : length pins.listed + length (referred words found) < 2 ^ 32 - 1
  pub few : length found ≤ 512

-- whether an object of a generation begins on the page: the page is the first of a run of that generation
abbrev pub is_walked : Entry → ℕ → ℕ → Bool
is_walked Free page g = false
is_walked (Used ty other fill first pages) page g = (other == g) && (first == page)

-- words and pages stand for a sound heap, and each double word to which an ambiguous word points has its hint
pub record CanPinPages (a : NamedHeap) (words : List ℕ) (pages : List Entry) (ambiguous : List ℕ) (hints : List Bool) (pins : Starts) : Type 0 where
  pub sound : IsSound a
  pub stand : WordsStand a words
  pub pages_are : pages ≡ a.pages
  pub empty : pins.listed ≡ []
  pub room : length ambiguous ≤ pins.most
  pub hints_long : 2 * length hints ≡ length words
  pub hinted : (k : ℕ) → IsPointedAt ambiguous (2 * k) → k < length hints → hint_of hints k ≡ true

-- whether an object is there, of a generation, and begins below an end
abbrev pub begins_before : ℕ → ℕ → Option Object → Bool
begins_before g end None = false
begins_before g end (Some o) = (o.generation == g) && nat_lt o.place end

-- how many objects of a generation begin below an end
abbrev pub how_many_before : NamedHeap → ℕ → ℕ → ℕ
how_many_before a g end = count_by (λ name. begins_before g end (object_at a.objects name)) (names a)

-- the starts of the objects of a generation that begin below an end and are hit
pub record AreHitBefore (a : NamedHeap) (g : ℕ) (words : List ℕ) (end : ℕ) (starts : List ℕ) : Type 0 where
  pub each : All (IsHitStart a g words) starts
  pub before : All (λ (i : ℕ). i < end) starts
  pub all : (name : ℕ) (o : Object) → object_at a.objects name ≡ Some o → is_of a g name ≡ true → list_any (hits (Some o)) words ≡ true →
      o.place < end → list_any (nat_eq o.place) starts ≡ true
  pub ascending : AllPairs (λ (x y : ℕ). x < y) starts
