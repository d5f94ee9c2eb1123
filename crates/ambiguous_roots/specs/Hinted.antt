-- To which double words of a space words point. That pointers are tagged is SBCL's, the tags are this project's own.
use Rattle.std.specs.Prelude.{ℕ, ◌<◌, List, length, Bool, false, slice_index, slice_index_or}
use Rattle.lisp_words.specs.declared.pointers.Lowtag.{Lowtag}
use Rattle.lisp_words.specs.Tagged.{IsTagged}

-- the flag of a double word; behind the last one none is set
abbrev pub hint_of : List Bool → ℕ → Bool
hint_of hints double = slice_index_or hints double false

-- one of the first n words of a list is the address of an index with a lowtag
pub record IsPointedBefore (words : List ℕ) (n index : ℕ) : Type 0 where
  pub k : ℕ
  pub below : k < n
  pub tag : Lowtag
  pub tagged : IsTagged (slice_index words k) index tag

-- some word of a list is
abbrev pub IsPointedAt : List ℕ → ℕ → Type 0
IsPointedAt words index = IsPointedBefore words (length words) index
