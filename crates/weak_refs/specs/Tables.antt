-- The words of a table, given the words of values. The layout is this project's own.
use Rattle.std.specs.Prelude.{◌≡◌, ℕ, ◌+◌, ◌*◌, ◌<◌, ◌≤◌, List, length, slice_index, slice_index_or, Some, true}
use Rattle.heap_terms.specs.declared.cells.Value.{Value}
use Rattle.heap_terms.specs.declared.kinds.Kind.TheVariants as kinds
use Rattle.heap_terms.specs.declared.kinds.Weakness.{Weakness}
use Rattle.heap_terms.specs.Heap.{NamedHeap, object_at, zero_value}
use Rattle.heap_terms.specs.Layout.{header_of, unbound_word, weakness_number}
use Rattle.heap_terms.specs.Objects.{Object, TableOf}
use Rattle.copy_space.specs.Midway.{IsPlacedSoFar}
use Rattle.copy_space.specs.Moved.{new_of}
use Rattle.copy_space.specs.Settled.{is_settled, word_before}
use Rattle.copy_space.specs.State.{CopyState}

-- pair k of a table
abbrev pub pair_at : List (Value × Value) → ℕ → Value × Value
pair_at pairs k = slice_index_or pairs k (zero_value, zero_value)

-- from a start on stand the words of a table with room for b pairs: its header, its weakness, its flag, its number of pairs,
-- the sides of its pairs one after the other, unbound words after them, and what look-up keeps
pub record TableWords (word : Value → ℕ) (words : List ℕ) (start : ℕ) (w : Weakness) (b : ℕ) (pairs : List (Value × Value)) : Type 0 where
  pub header : slice_index words start ≡ header_of kinds.Table (3 + 4 * b)
  pub weakness : slice_index words (start + 1) ≡ 2 * weakness_number w
  pub flag : slice_index words (start + 2) ≡ 0
  pub count : slice_index words (start + 3) ≡ 2 * length pairs
  pub keys : (k : ℕ) → k < length pairs → slice_index words (start + 4 + 2 * k) ≡ word (pair_at pairs k).0
  pub values : (k : ℕ) → k < length pairs → slice_index words (start + 5 + 2 * k) ≡ word (pair_at pairs k).1
  pub unbound : (i : ℕ) → 2 * length pairs ≤ i → i < 2 * b → slice_index words (start + 4 + i) ≡ unbound_word
  pub kept : (i : ℕ) → i < 2 * b → slice_index words (start + 4 + 2 * b + i) ≡ 0

-- a settled table stands now at a start, as the moves of the pass left it
pub record IsTableNow (a : NamedHeap) (s : CopyState) (start : ℕ) : Type 0 where
  pub name : ℕ
  pub o : Object
  pub there : object_at a.objects name ≡ Some o
  pub settled : is_settled a s name ≡ true
  pub here : new_of s.moves o.place ≡ start
  pub w : Weakness
  pub b : ℕ
  pub pairs : List (Value × Value)
  pub contents : o.contents ≡ TableOf w b pairs
  pub words : TableWords (word_before a) s.words start w b pairs

pub record CanReadTable (a : NamedHeap) (s : CopyState) (start : ℕ) : Type 0 where
  pub places : IsPlacedSoFar a s
  pub table : IsTableNow a s start
