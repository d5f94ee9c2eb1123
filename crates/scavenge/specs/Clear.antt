-- Pages of conses that need no scan: no word on them refers to a place on a page of the generation that is collected.
use Rattle.std.specs.Prelude.{◌≡◌, ℕ, ◌+◌, ◌*◌, ◌/◌, ◌^◌, ◌<◌, ◌≤◌, ◌⊎◌, List, Bool, true, false, length, slice_index}
use Rattle.heap_terms.specs.declared.kinds.PageType.{PageType}
use Rattle.heap_terms.specs.declared.kinds.PageType.TheVariants as types
use Rattle.heap_terms.specs.declared.pages.Entry.{Entry}
use Rattle.heap_terms.specs.declared.pages.Entry.TheVariants.{Free, Used}
use Rattle.heap_terms.specs.Heap.{entry_at}
use Rattle.heap_terms.specs.Layout.{page_words}
use Rattle.lisp_words.specs.declared.pointers.Lowtag.{Lowtag}
use Rattle.lisp_words.specs.Tagged.{IsTagged}
use Rattle.copy_space.specs.Pages.{is_page_of}
use Rattle.copy_space.specs.State.{CopyState}
use Rattle.scavenge.specs.declared.clear.Reach.{Reach}

abbrev pub is_cons_page : PageType → Bool
is_cons_page types.Cons = true
is_cons_page types.Boxed = false
is_cons_page types.Unboxed = false

-- whether a page is in use for conses
abbrev pub has_conses : Entry → Bool
has_conses Free = false
has_conses (Used ty g fill first n) = is_cons_page ty

-- no page is of generation g
abbrev pub HasNoPage : List Entry → ℕ → Type 0
HasNoPage pages g = (page : ℕ) → is_page_of (entry_at pages page) g ≡ false

-- the pages of generation g lie from one page on and below another
abbrev pub LieWithin : List Entry → ℕ → ℕ → ℕ → Type 0
LieWithin pages g first end = (page : ℕ) → (page < first) ⊎ (end ≤ page) → is_page_of (entry_at pages page) g ≡ false

-- the addresses of places on them lie from one word on and below another
pub record IsReach (pages : List Entry) (g : ℕ) (reach : Reach) : Type 0 where
  pub low : reach.end < 2 ^ 63
  pub others : (word index : ℕ) (tag : Lowtag) → IsTagged word index tag → (word < reach.from) ⊎ (reach.end ≤ word) →
      is_page_of (entry_at pages (index / page_words)) g ≡ false

-- no word lies in reach
abbrev pub AreBeyond : List ℕ → Reach → Type 0
AreBeyond words reach = (k : ℕ) → k < length words → (slice_index words k < reach.from) ⊎ (reach.end ≤ slice_index words k)

-- a word is the address of a place on a page that is not of generation g
pub record RefersElsewhere (pages : List Entry) (g word : ℕ) : Type 0 where
  pub index : ℕ
  pub tag : Lowtag
  pub tagged : IsTagged word index tag
  pub other : is_page_of (entry_at pages (index / page_words)) g ≡ false

-- a word is no address, or one of such a place
abbrev pub IsElsewhere : List Entry → ℕ → ℕ → Type 0
IsElsewhere pages g word = ((index : ℕ) (tag : Lowtag) → IsTagged word index tag → ⊥) ⊎ RefersElsewhere pages g word

-- so many words from an index on
abbrev pub AreElsewhere : List ℕ → List Entry → ℕ → ℕ → ℕ → Type 0
AreElsewhere words pages g from count = (k : ℕ) → k < count → IsElsewhere pages g (slice_index words (from + k))

-- nothing that begins below so many words of a page needs a scan: it is conses, and they refer to nothing of the generation
pub record NeedsNoScan (s : CopyState) (page words : ℕ) : Type 0 where
  pub conses : 0 < words → has_conses (entry_at s.pages page) ≡ true
  pub elsewhere : HasNoPage s.pages s.pass.generation ⊎ AreElsewhere s.words s.pages s.pass.generation (page_words * page) words
