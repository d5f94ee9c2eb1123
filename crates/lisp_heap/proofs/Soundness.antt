-- What is known of the heap for which a sound World stands.
use Rattle.std.proofs.Common.{◌≡◌, ℕ, ◌<◌, List, [], length, sym, ◌∙◌, subst, ap, arith}
use Rattle.std.proofs.Math.ListN.{length-map}
use Rattle.std.specs.Prelude.{slice_index_or}
use Rattle.heap_terms.specs.Heap.{NamedHeap, thread_at}
use Rattle.heap_terms.specs.Histories.{replay}
use Rattle.heap_terms.specs.WellFormed.{IsWellFormed}
use Rattle.heap_laws.proofs.SoundHeaps.{replay-well_formed}
use Rattle.lisp_heap.specs.CellsView.{HasCells}
use Rattle.lisp_heap.specs.PinsView.{HasPinRoom}
use Rattle.lisp_heap.specs.Standing.{pins_of}
use Rattle.lisp_heap.specs.View.{View, heap_of}
use Rattle.lisp_heap.specs.WorldSound.{IsSound, view_of}
use Rattle.lisp_heap.specs.State.{state_of}
use Rattle.lisp_heap.specs.declared.world.World.TheInside.{Inside}
use Rattle.lisp_heap.proofs.Unchanged.{pins_read}

-- the heap that a World's history leaves
abbrev pub heap : Inside → NamedHeap
heap s = replay s.program s.history.items

pub well_formed : (s : Inside) → IsSound s → IsWellFormed s.program (heap s)
well_formed s h = replay-well_formed s.program s.history.items h.valid h.lawful

pub states_length : (s : Inside) → IsSound s → length s.states ≡ length s.program.threads
states_length s h = ap length h.holds.states ∙ length-map (heap s).threads state_of ∙ (well_formed s h).threads_length

pub pins_length : (s : Inside) → IsSound s → length s.pins ≡ length s.program.threads
pins_length s h = ap length h.holds.pins ∙ length-map (heap s).threads pins_of ∙ (well_formed s h).threads_length

pub pins_at : (s : Inside) → IsSound s → (t : ℕ) → t < length s.program.threads → slice_index_or s.pins t [] ≡ (thread_at (heap s) t).pins
pins_at s h t lt = pins_read (heap s) s.pins t [] h.holds.pins (omega (arith, (well_formed s h).threads_length))

-- a thread whose pins have room for one more
pub pin_room : (s : Inside) → IsSound s → (t : ℕ) → t < length s.program.threads → length (thread_at (heap s) t).pins < 32 → HasPinRoom s.pins t
pin_room s h t lt room = record {
  thread = omega (arith, pins_length s h);
  room = subst (λ (ws : List ℕ). length ws < 32) (sym (pins_at s h t lt)) room;
}

pub cells_room : (s : Inside) (t : ℕ) → IsSound s → t < length s.program.threads →
    HasCells s.cells t
cells_room s t h lt =
    let wf = well_formed s h in
    record {
      stack = omega (arith, h.holds.cells.stack_length, wf.threads_length);
      exact = omega (arith, h.holds.cells.exact_length, wf.threads_length);
      raws = omega (arith, h.holds.cells.raws_length, wf.threads_length);
      shared = h.holds.cells.shared_length;
    }

-- the pins that were read are the thread's
pub pins_in : (s : Inside) (w : View) → IsSound s → view_of s ≡ w → (t : ℕ) (pins : List ℕ) → t < length w.program.threads → pins ≡ slice_index_or s.pins t [] →
    pins ≡ (thread_at (heap_of w) t).pins
pins_in s w h e t pins lt is =
    let here : t < length s.program.threads = subst (λ (v : View). t < length v.program.threads) (sym e) lt in
    is ∙ pins_at s h t here ∙ ap (λ (v : View). (thread_at (heap_of v) t).pins) e
