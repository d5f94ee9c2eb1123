-- The words of a heap as one list. Pages of 512 words, and at most 1,024 of them, are this project's own.
use Rattle.std.specs.Prelude.{◌≡◌, ℕ, ◌+◌, ◌*◌, ◌-◌, ◌≤◌, List, ◌++◌, length, take, drop, replicate}
use Rattle.heap_terms.specs.declared.limits.TheConstants.{MOST_PAGES}
use Rattle.heap_terms.specs.Layout.{page_words}

-- a space has a whole number of pages, from 1 to 1,024
pub record IsPaged (words : List ℕ) : Type 0 where
  pub pages : ℕ
  pub whole : length words ≡ page_words * pages
  pub least : 1 ≤ pages
  pub most : pages ≤ MOST_PAGES

-- the items after the n from `from` on were copied over those from `to` on
abbrev pub copied : {A : Type 0} → List A → ℕ → ℕ → ℕ → List A
copied items from to n = take to items ++ take n (drop from items) ++ drop (to + n) items

-- the items after others were written over those from an index on
abbrev pub written : {A : Type 0} → List A → ℕ → List A → List A
written items at values = take at items ++ values ++ drop (at + length values) items

-- a list of a length, of which the items that are not kept are blank
abbrev pub filled : {A : Type 0} → List A → ℕ → A → List A
filled kept len blank = kept ++ replicate (len - length kept) blank
