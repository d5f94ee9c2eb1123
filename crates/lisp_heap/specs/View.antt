-- What contracts see of a World.
use Rattle.std.specs.Prelude.{ℕ, List}
use Rattle.heap_terms.specs.declared.events.Event.{Event}
use Rattle.heap_terms.specs.declared.pages.Next.{Next}
use Rattle.heap_terms.specs.declared.programs.Program.{Program}
use Rattle.heap_terms.specs.Heap.{NamedHeap}
use Rattle.heap_terms.specs.Histories.{replay, next}
use Rattle.lisp_heap.specs.Parts.{Parts}

-- A World as its program, its history, and what it keeps: its words, pages, labels, cells, the places and the open
-- regions of its threads, the number of its commits, and the policy's numbers. The named heap is the replay of the history, and what the
-- World keeps stands for it.
pub record View : Type 0 where
  pub program : Program
  pub history : List Event
  pub parts : Parts

-- the named heap for which a World stands
abbrev pub heap_of : View → NamedHeap
heap_of w = replay w.program w.history

-- what thread t does next
abbrev pub next_of : View → ℕ → Next
next_of w t = next w.program (heap_of w) t
