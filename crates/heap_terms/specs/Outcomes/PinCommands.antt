-- The commands on a thread's pins: `pin` and `unpin`. What they stand for is SBCL's with-pinned-objects; that a
-- thread has a list of at most 32 words is this project's own. Nothing is left free.
use Rattle.std.specs.Prelude.{ℕ, ◌-◌, ◌==◌, List, [], ◌∷◌, ◌++◌, length, take, if◌then◌else◌, nat_lt}
use Rattle.heap_terms.specs.declared.limits.TheConstants.{MOST_PINS}
use Rattle.heap_terms.specs.declared.answers.Refusal.TheVariants as refusals
use Rattle.heap_terms.specs.declared.cells.Cell.{Cell}
use Rattle.heap_terms.specs.Cells.{cell_value}
use Rattle.heap_terms.specs.Heap.{NamedHeap, thread_at, with_thread}
use Rattle.heap_terms.specs.Outcome.{Outcome, done, refused}
use Rattle.heap_terms.specs.Spelling.{word_of}

-- the heap with other pins of thread t
abbrev pub with_pins : NamedHeap → ℕ → List ℕ → NamedHeap
with_pins a t pins = with_thread a t (record (thread_at a t) { pins = pins })

-- the word of the value of c goes on the pins
abbrev pub pinning : NamedHeap → ℕ → Cell → Outcome
pinning a t c =
    let pins = (thread_at a t).pins in
    if nat_lt (length pins) MOST_PINS then done (with_pins a t (pins ++ word_of a.objects (cell_value a t c) ∷ [])) else refused refusals.PinsFull a

-- the last one is taken off
abbrev pub unpinning : NamedHeap → ℕ → Outcome
unpinning a t =
    let pins = (thread_at a t).pins in
    if length pins == 0 then refused refusals.Nothing a else done (with_pins a t (take (length pins - 1) pins))
