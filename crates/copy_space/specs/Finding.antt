-- What is found at a word, and what the settling of one object needs.
use Rattle.std.specs.Prelude.{◌≡◌, ◌≢◌, ℕ, ◌≤◌, List, slice_index}
use Rattle.heap_terms.specs.declared.cells.Value.{Value}
use Rattle.heap_terms.specs.declared.cells.Value.TheVariants.{Ref}
use Rattle.heap_terms.specs.declared.kinds.Kind.{Kind}
use Rattle.heap_terms.specs.declared.kinds.Kind.TheVariants as kinds
use Rattle.heap_terms.specs.declared.limits.TheConstants.{MOST_ELEMENTS}
use Rattle.heap_terms.specs.Heap.{NamedHeap}
use Rattle.heap_terms.specs.Layout.{lowtag_of, header_of}
use Rattle.heap_terms.specs.Objects.{kind_of}
use Rattle.lisp_words.specs.declared.pointers.Lowtag.{Lowtag}
use Rattle.lisp_words.specs.declared.pointers.Lowtag.TheVariants as lowtags
use Rattle.lisp_words.specs.Tagged.{tag_bits}
use Rattle.copy_space.specs.declared.evacuating.Found.{Found}
use Rattle.copy_space.specs.declared.evacuating.Found.TheVariants.{Settled, Unsettled}
use Rattle.copy_space.specs.declared.marks.Mark.TheVariants.{Fresh}
use Rattle.copy_space.specs.Marks.{mark_at}
use Rattle.copy_space.specs.Midway.{Midway, IsStartOf}
use Rattle.copy_space.specs.Settled.{IsWordOf, IsNewWord, word_before}
use Rattle.copy_space.specs.State.{CopyState}

-- a value refers to an object of the generation that is not settled and was at an index, and a word refers to it with a tag
pub record RefersToFresh (a : NamedHeap) (s : CopyState) (v : Value) (word index : ℕ) (tag : Lowtag) : Type 0 where
  pub name : ℕ
  pub start : IsStartOf a s.pass.generation index name
  pub is : v ≡ Ref name
  pub tagged : tag_bits tag ≡ lowtag_of (kind_of start.o.contents)
  pub word_is : word ≡ word_before a v
  pub fresh : mark_at s.marks index ≡ Fresh

-- what is found at a word: the word that its value has from now on, or an object that is not settled
abbrev pub IsFound : NamedHeap → CopyState → ℕ → Found → Type 0
IsFound a s word (Settled now) = (v : Value) → IsWordOf a s v word → IsNewWord a s v now
IsFound a s word (Unsettled index tag) = (v : Value) → IsWordOf a s v word → RefersToFresh a s v word index tag

-- the object of a word can be settled
pub record CanSettle (a : NamedHeap) (s : CopyState) (index : ℕ) (tag : Lowtag) (word : ℕ) : Type 0 where
  pub midway : Midway a s
  pub value : Value
  pub is_word : IsWordOf a s value word
  pub found : IsFound a s word (Unsettled index tag)

-- the header of an object of a kind with n words of payload stands at an index
pub record IsHeaderAt (words : List ℕ) (index : ℕ) (kind : Kind) (n : ℕ) : Type 0 where
  pub headed : kind ≢ kinds.Cons
  pub most : n ≤ MOST_ELEMENTS
  pub here : slice_index words index ≡ header_of kind n

abbrev pub HasHeader : List ℕ → ℕ → Type 0
HasHeader words index = (kind : Kind) × (n : ℕ) × IsHeaderAt words index kind n

-- the same of an object that has a header
pub record CanSettleHeaded (a : NamedHeap) (s : CopyState) (index word : ℕ) : Type 0 where
  pub tag : Lowtag
  pub headed : tag ≢ lowtags.List
  pub can : CanSettle a s index tag word
