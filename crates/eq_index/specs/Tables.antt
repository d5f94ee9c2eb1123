-- A table in the words of a space: its room and its pairs, each pair the words of its key and of its value. The layout is
-- this project's own. Which weakness it has is left free: look-up does not read that word, and leaves it as it is.
use Rattle.std.specs.Prelude.{◌≡◌, ℕ, ◌+◌, ◌*◌, ◌<◌, ◌≤◌, ◌⊎◌, List, length, slice_index, slice_index_or}
use Rattle.heap_terms.specs.declared.kinds.Kind.TheVariants as kinds
use Rattle.heap_terms.specs.declared.limits.TheConstants.{MOST_PAGES, MOST_PAIRS}
use Rattle.heap_terms.specs.Layout.{header_of, page_words, unbound_word}

-- a space has no more words than its most pages
abbrev pub most_words : ℕ
most_words = page_words * MOST_PAGES

-- a pair, as the words of its key and of its value
pub record PairWords : Type 0 where
  pub key : ℕ
  pub value : ℕ

abbrev pub no_pair : PairWords
no_pair = record { key = 0; value = 0 }

-- pair k
abbrev pub pair_at : List PairWords → ℕ → PairWords
pair_at pairs k = slice_index_or pairs k no_pair

-- At an index begins a table with room for b pairs, 1 to 64, and these pairs in it: its header, its number of pairs, the
-- pairs one after the other, unbound words after them, and what look-up keeps for itself, which is fixnum 0. No two pairs
-- have one key.
pub record IsTable (words : List ℕ) (table b : ℕ) (pairs : List PairWords) : Type 0 where
  pub least : 1 ≤ b
  pub most : b ≤ MOST_PAIRS
  pub within : table + 4 + 4 * b ≤ length words
  pub low : table + 4 + 4 * b ≤ most_words
  pub header : slice_index words table ≡ header_of kinds.Table (3 + 4 * b)
  pub flag : slice_index words (table + 2) ≡ 0
  pub count : slice_index words (table + 3) ≡ 2 * length pairs
  pub room : length pairs ≤ b
  pub keys : (k : ℕ) → k < length pairs → slice_index words (table + 4 + 2 * k) ≡ (pair_at pairs k).key
  pub values : (k : ℕ) → k < length pairs → slice_index words (table + 5 + 2 * k) ≡ (pair_at pairs k).value
  pub unbound : (i : ℕ) → 2 * length pairs ≤ i → i < 2 * b → slice_index words (table + 4 + i) ≡ unbound_word
  pub kept : (i : ℕ) → i < 2 * b → slice_index words (table + 4 + 2 * b + i) ≡ 0
  pub once : (i k : ℕ) → i < length pairs → k < length pairs → (pair_at pairs i).key ≡ (pair_at pairs k).key → i ≡ k

-- at an index begins some table
pub record HasTable (words : List ℕ) (table : ℕ) : Type 0 where
  pub b : ℕ
  pub pairs : List PairWords
  pub is : IsTable words table b pairs

-- no word but those of a table has changed
pub record StaysElsewhere (old new : List ℕ) (table b : ℕ) : Type 0 where
  pub long : length new ≡ length old
  pub same : (i : ℕ) → (i < table) ⊎ (table + 4 + 4 * b ≤ i) → slice_index new i ≡ slice_index old i

-- a table has these pairs now and the weakness that it had, and no word of another object has changed
pub record Becomes (old new : List ℕ) (table b : ℕ) (pairs : List PairWords) : Type 0 where
  pub is : IsTable new table b pairs
  pub weakness : slice_index new (table + 1) ≡ slice_index old (table + 1)
  pub elsewhere : StaysElsewhere old new table b
