-- Which words are references and headers.
use Rattle.std.specs.Prelude.{◌≡◌, ◌≢◌, ℕ, ◌+◌, ◌*◌, ◌%◌, ◌<◌, ◌^◌}
use Rattle.heap_terms.specs.declared.kinds.Kind.{Kind}
use Rattle.heap_terms.specs.declared.kinds.Kind.TheVariants as kinds
use Rattle.heap_terms.specs.declared.limits.TheConstants.{MOST_WORDS}
use Rattle.heap_terms.specs.Layout.{base_address, header_of}
use Rattle.lisp_words.specs.declared.pointers.Lowtag.{Lowtag}
use Rattle.lisp_words.specs.declared.pointers.Lowtag.TheVariants as lowtags

-- the low four bits of a reference
abbrev pub tag_bits : Lowtag → ℕ
tag_bits lowtags.Instance = 3
tag_bits lowtags.List = 7
tag_bits lowtags.Function = 11
tag_bits lowtags.Other = 15

-- a word is the address of an even index below 524,288 plus a lowtag
pub record IsTagged (word index : ℕ) (tag : Lowtag) : Type 0 where
  pub even : index % 2 ≡ 0
  pub below : index < MOST_WORDS
  pub word_is : word ≡ base_address + 8 * index + tag_bits tag

-- a word is the header of a kind, which is not a cons, with n words of payload below 2^32
pub record IsHeader (word : ℕ) (kind : Kind) (n : ℕ) : Type 0 where
  pub headed : kind ≢ kinds.Cons
  pub below : n < 2 ^ 32
  pub word_is : word ≡ header_of kind n
