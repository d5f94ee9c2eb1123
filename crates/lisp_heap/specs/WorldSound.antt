-- What every World keeps true.
use Rattle.std.specs.Prelude.{ℕ, ◌*◌, length}
use Rattle.std.specs.List.{sum_by}
use Rattle.std.specs.Option.{ForSome}
use Rattle.heap_terms.specs.declared.programs.Program.{Program}
use Rattle.heap_terms.specs.Histories.{Lawful, replay}
use Rattle.heap_terms.specs.Valid.{IsValid}
use Rattle.lisp_heap.specs.Parts.{Parts}
use Rattle.lisp_heap.specs.Standing.{Holds}
use Rattle.lisp_heap.specs.View.{View}
use Rattle.collect_pass.specs.Pass.{IsReservedFor}
use Rattle.lisp_heap.specs.declared.scratch.Scratch.{Scratch}
use Rattle.lisp_heap.specs.declared.world.World.TheInside.{Inside}

abbrev pub parts_of : Inside → Parts
parts_of s = record {
  words = s.space;
  pages = s.pages;
  labels = s.labels;
  cells = s.cells;
  states = s.states;
  pins = s.pins;
  commits = s.commits;
  stats = s.stats;
  counted = s.counted;
  triggered = s.triggered;
  finalizers = s.finalizers;
}

abbrev pub view_of : Inside → View
view_of s = record { program = s.program; history = s.history.items; parts = parts_of s }

-- how many words of a thread pin what they hit, at most: those of its cells s and r and its pins
abbrev pub most_ambiguous : ℕ
most_ambiguous = 56

-- the room for passes is there for all pages of a program, all words of its threads that pin, and as many weak pointers and
-- tables as it has commands
abbrev pub IsRoomFor : Program → Scratch → Type 0
IsRoomFor p x = IsReservedFor x.room p.pages (most_ambiguous * length p.threads) (sum_by length p.threads)

-- its program is valid, its history is lawful, what it keeps stands for the heap that the history leaves, and room for
-- passes, once it is made, is enough
pub record IsSound (s : Inside) : Type 0 where
  pub valid : IsValid s.program
  pub lawful : Lawful s.program s.history.items
  pub holds : Holds (replay s.program s.history.items) (parts_of s)
  pub scratch : ForSome s.scratch (IsRoomFor s.program)
