-- What the commit of an object needs to be told, and what it makes of the pages.
use Rattle.std.specs.Prelude.{◌≡◌, ℕ, ◌+◌, ◌/◌, ◌%◌, ◌≤◌, List, Some, length, true, false, if◌then◌else◌, slice_set}
use Rattle.heap_terms.specs.declared.cells.Cell.{Cell}
use Rattle.heap_terms.specs.declared.commands.Command.{Command}
use Rattle.heap_terms.specs.declared.kinds.Kind.{Kind}
use Rattle.heap_terms.specs.declared.limits.TheConstants.{MOST_WORDS}
use Rattle.heap_terms.specs.declared.pages.Entry.{Entry}
use Rattle.heap_terms.specs.declared.pages.Next.TheVariants as nexts
use Rattle.heap_terms.specs.Heap.{entry_at}
use Rattle.heap_terms.specs.Histories.{command_at}
use Rattle.heap_terms.specs.Layout.{page_words, size_of}
use Rattle.heap_terms.specs.Regions.{Make, destination_of, is_free, is_small, pages_needed, place_for, wish_of, with_fill, with_large}
use Rattle.lisp_heap.specs.View.{View, heap_of, next_of}

-- Thread t's command c makes an object of a kind with n words of payload, which has room; it begins at an index, and the
-- cell d is to refer to it.
pub record IsCommit (w : View) (t : ℕ) (c : Command) (d : Cell) (index : ℕ) (kind : Kind) (n : ℕ) : Type 0 where
  pub seed : ℕ
  pub command : command_at w.program (heap_of w) t ≡ Some c
  pub wish : wish_of c ≡ Make kind n seed
  pub builds : next_of w t ≡ nexts.Build kind n seed
  pub destination : destination_of c ≡ Some d
  pub place : index ≡ place_for (heap_of w) t kind (size_of kind n)

-- the page of an index, or the run that begins there, has room for an object of a size from that index on
pub record CanFill (pages : List Entry) (index size : ℕ) : Type 0 where
  pub inside : index / page_words + pages_needed size ≤ length pages
  pub used : is_free (entry_at pages (index / page_words)) ≡ false
  pub small : is_small size ≡ true → index % page_words + size ≤ page_words
  pub most : size ≤ MOST_WORDS

-- the pages after an object of a size was put from an index on
abbrev pub pages_filled : List Entry → ℕ → ℕ → List Entry
pages_filled pages index size =
    let page = index / page_words in
    if is_small size then slice_set pages page (with_fill (entry_at pages page) (index % page_words + size)) else with_large pages page size
