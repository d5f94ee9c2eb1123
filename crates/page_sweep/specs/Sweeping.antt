-- What the sweep needs.
use Rattle.std.specs.Prelude.{◌≡◌, ◌≢◌, ℕ, ◌/◌, ◌<◌, ◌≤◌, List, Bool, length, slice_index}
use Rattle.heap_terms.specs.declared.limits.TheConstants.{OLDEST_GENERATION}
use Rattle.heap_terms.specs.declared.pages.Entry.{Entry}
use Rattle.heap_terms.specs.Heap.{entry_at, fill_of}
use Rattle.heap_terms.specs.Layout.{page_words}
use Rattle.copy_space.specs.Midway.{IsPlacedSoFar}
use Rattle.page_sweep.specs.declared.sweeping.Traced.{Traced}
use Rattle.page_sweep.specs.Flags.{held_at}
use Rattle.page_sweep.specs.Held.{is_held, swept_entry}
use Rattle.page_sweep.specs.Wiping.{Tracing, AreHeaded, KeepsSettled, IsClean}

-- what is told of tracing is so of the state at its end: objects lie where the moves say, and begin with their headers
pub record Tells (at : Tracing) (t : Traced) : Type 0 where
  pub places : IsPlacedSoFar at.heap at.state
  pub headed : AreHeaded at.heap at.state
  pub marks : t.marks.now ≡ at.state.marks
  pub pins : t.pins.now.listed ≡ at.state.pins
  pub moves : t.moves.now ≡ at.state.moves
  pub pass : t.pass ≡ at.state.pass
  pub target : t.target ≤ OLDEST_GENERATION

-- a sweep can be made: besides, these are the words and pages at the end of tracing
pub record CanSweep (at : Tracing) (words : List ℕ) (pages : List Entry) (t : Traced) : Type 0 where
  pub tells : Tells at t
  pub words_are : words ≡ at.state.words
  pub pages_are : pages ≡ at.state.pages

-- the flags are those of the pages that the pass holds
pub record AreHeld (at : Tracing) (held : List Bool) : Type 0 where
  pub long : length held ≡ length at.state.pages
  pub flags : (page : ℕ) → held_at held page ≡ is_held at.state.pins at.state.moves page

-- a page can be swept: it is as it was at the end of tracing, and so are its words
pub record CanSweepPage (at : Tracing) (words : List ℕ) (pages : List Entry) (t : Traced) (page : ℕ) : Type 0 where
  pub tells : Tells at t
  pub long : length pages ≡ length at.state.pages
  pub inside : page < length pages
  pub entry : entry_at pages page ≡ entry_at at.state.pages page
  pub keeps : KeepsSettled at words
  pub same : (i : ℕ) → i / page_words ≡ page → slice_index words i ≡ slice_index at.state.words i

-- a page was swept: if it is in use it is clean, and the words of settled objects and of other pages are as they were
pub record IsPageSwept (at : Tracing) (old new : List ℕ) (page target : ℕ) : Type 0 where
  pub keeps : KeepsSettled at new
  pub others : (i : ℕ) → i / page_words ≢ page → slice_index new i ≡ slice_index old i
  pub clean : IsClean at new page (fill_of (swept_entry at.state.pins at.state.moves at.state.pass.generation target (entry_at at.state.pages page)))
