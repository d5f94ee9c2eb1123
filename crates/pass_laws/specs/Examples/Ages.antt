-- When a collection goes on with a generation that was not asked for: it has more than 1,024 words, and its average age is
-- above three quarters. Here generation 1 has 1,026 words or 1,024, and 770 or 769 were added up at the raises into it.
use Rattle.std.specs.Prelude.{◌≡◌, ℕ, [], ◌∷◌, Some, true, false, replicate}
use Rattle.heap_terms.specs.Heap.{NamedHeap, zero_value}
use Rattle.heap_terms.specs.Objects.{VectorOf}
use Rattle.heap_terms.specs.Policy.{is_raised, is_continued}

-- a heap with a vector of so many fields of generation 1, after some raises and passes
abbrev pub heap_with : ℕ → ℕ → ℕ → NamedHeap
heap_with fields cum num = record {
  objects = Some (record { generation = 1; place = 0; contents = VectorOf (replicate fields zero_value) }) ∷ [];
  pages = [];
  threads = [];
  shared = [];
  finalizers = [];
  queue = [];
  cum = 0 ∷ cum ∷ 0 ∷ 0 ∷ 0 ∷ 0 ∷ 0 ∷ [];
  num = num ∷ 0 ∷ 0 ∷ 0 ∷ 0 ∷ 0 ∷ 0 ∷ [];
  counted = 0;
  triggered = 0;
}

pub record Holds : Type 0 where
  pub goes_on : is_continued (heap_with 1025 770 0) 0 0 true ≡ true
  pub too_young : is_continued (heap_with 1025 769 0) 0 0 true ≡ false
  pub too_small : is_continued (heap_with 1023 770 0) 0 0 true ≡ false
  pub not_raised : is_continued (heap_with 1025 770 0) 0 0 false ≡ false
  pub asked_for : is_continued (heap_with 1023 0 0) 1 0 true ≡ true
  pub raised_by_number : is_raised (heap_with 1025 770 1) 0 0 ≡ true
  pub not_yet : is_raised (heap_with 1025 770 0) 0 0 ≡ false
  pub raised_as_asked : is_raised (heap_with 1025 770 0) 1 0 ≡ true
  pub never_the_last : is_raised (heap_with 1025 770 1) 5 5 ≡ false
