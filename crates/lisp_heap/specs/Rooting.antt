-- The roots of a collection, as words and as values.
use Rattle.std.specs.Prelude.{ℕ, List, ◌++◌, Bool, filter, flat_map, nat_le}
use Rattle.heap_terms.specs.declared.cells.Value.{Value}
use Rattle.heap_terms.specs.Collections.{closed}
use Rattle.heap_terms.specs.Heap.{NamedHeap, Thread}
use Rattle.heap_terms.specs.Layout.{base_address}
use Rattle.trace_laws.specs.Rooted.{Rooted}
use Rattle.lisp_heap.specs.CellsView.{CellsView}
use Rattle.lisp_heap.specs.View.{View, heap_of}

abbrev pub exact_of : Thread → List Value
exact_of th = th.exact

-- the values in the exact cells: the cells b of one thread after the other, and the cells g
abbrev pub root_values : NamedHeap → List Value
root_values a = flat_map exact_of a.threads ++ a.shared

abbrev pub rooted : NamedHeap → Rooted
rooted a = record { heap = a; values = root_values a }

-- the heap of a World with its regions closed, and its roots
abbrev pub rooted_in : View → Rooted
rooted_in w = rooted (closed (heap_of w))

-- their words
abbrev pub exact_roots : CellsView → List ℕ
exact_roots v = v.exact ++ v.shared

-- whether a word is as large as those that refer to objects
abbrev pub may_refer : ℕ → Bool
may_refer word = nat_le base_address word

abbrev pub pinned_words : List ℕ → List ℕ
pinned_words words = words

-- the words that pin what they hit: of the cells s and r and the pins those that are as large as references
abbrev pub ambiguous_roots : CellsView → List (List ℕ) → List ℕ
ambiguous_roots v pins = filter may_refer v.stack ++ filter may_refer v.raws ++ filter may_refer (flat_map pinned_words pins)
