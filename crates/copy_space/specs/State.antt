-- What a copier works on, as plain lists. The page in use of each type is this project's own.
use Rattle.std.specs.Prelude.{ℕ, List, [], vec_capacity, None}
use Rattle.heap_terms.specs.declared.pages.Entry.{Entry}
use Rattle.heap_terms.specs.Placement.{Placement}
use Rattle.copy_space.specs.declared.copier.Copier.{Copier}
use Rattle.copy_space.specs.declared.marks.Mark.{Mark}
use Rattle.copy_space.specs.declared.notes.Move.{Move}
use Rattle.copy_space.specs.declared.notes.Pass.{Pass}
use Rattle.copy_space.specs.declared.placing.PagesInUse.{PagesInUse}

-- the words, the pages, the marks, the pinned starts, the pass, the moves so far and the room for them, and the page
-- in use of each type
pub record CopyState : Type 0 where
  pub words : List ℕ
  pub pages : List Entry
  pub marks : List Mark
  pub pins : List ℕ
  pub pass : Pass
  pub moves : List Move
  pub room : ℕ
  pub in_use : PagesInUse

abbrev pub state : Copier → CopyState
state c = record {
  words = c.space.now;
  pages = c.pages.now;
  marks = c.marks.now;
  pins = c.pins.now.listed;
  pass = c.pass;
  moves = c.notes.now.moves.items;
  room = vec_capacity c.notes.now.moves;
  in_use = c.in_use;
}

-- pages and pages in use as a placement that has placed nothing yet
abbrev pub placing_on : List Entry → PagesInUse → Placement
placing_on pages in_use = record {
  pages = pages;
  cons_page = in_use.cons;
  boxed_page = in_use.boxed;
  unboxed_page = in_use.unboxed;
  moves = [];
}

-- at first no page is in use
abbrev pub none_in_use : PagesInUse
none_in_use = record { cons = None; boxed = None; unboxed = None }
