-- What is read of a sound World: its threads, commands and cells.
use Rattle.std.proofs.Common.{◌≡◌, ℕ, ◌<◌, ◌≤◌, List, length, refl, sym, ◌∙◌, subst, ap, arith, get_or, Some, None, Option, IsSome, inl, inr}
use Rattle.std.proofs.lemmas.Bool.{cases_lt}
use Rattle.std.proofs.lemmas.List.{get_or_default}
use Rattle.std.proofs.lemmas.Option.{slice_get_past, slice_get_read}
use Rattle.std.specs.Prelude.{slice_get}
use Rattle.heap_terms.specs.declared.cells.Cell.{Cell}
use Rattle.heap_terms.specs.declared.cells.Raw.{Raw}
use Rattle.heap_terms.specs.declared.commands.Command.{Command}
use Rattle.heap_terms.specs.Cells.{cell_value}
use Rattle.heap_terms.specs.declared.kinds.PageType.{PageType}
use Rattle.heap_terms.specs.declared.pages.Entry.{Entry}
use Rattle.heap_terms.specs.declared.pages.Entry.TheVariants.{Used}
use Rattle.heap_terms.specs.Heap.{thread_at, entry_at, fill_of}
use Rattle.heap_terms.specs.Histories.{command_at, script_of}
use Rattle.heap_terms.specs.RawCells.{raw_value}
use Rattle.heap_terms.specs.Valid.{IsCell, IsRaw}
use Rattle.heap_terms.specs.WellFormed.{IsLiving}
use Rattle.heap_terms.specs.Spelling.{word_of}
use Rattle.heap_laws.proofs.Allocating.{entry_fill}
use Rattle.heap_laws.proofs.SoundHeaps.{cell_living}
use Rattle.lisp_heap.specs.CellsView.{cell_word, raw_word}
use Rattle.lisp_heap.specs.LivingWords.{IsWord}
use Rattle.lisp_heap.specs.WorldSound.{IsSound, view_of}
use Rattle.lisp_heap.specs.State.{state_of}
use Rattle.lisp_heap.specs.View.{View, heap_of}
use Rattle.lisp_heap.specs.declared.states.ThreadState.{ThreadState}
use Rattle.lisp_heap.specs.declared.world.World.TheInside.{Inside}
use Rattle.lisp_heap.proofs.CellLemmas.{CellsStand-read, CellsStand-raw}
use Rattle.lisp_heap.proofs.Soundness.{heap, well_formed}
use Rattle.lisp_heap.proofs.Unchanged.{state_read}

-- the threads of a view are those of the fields
pub thread_in : (s : Inside) (w : View) → view_of s ≡ w → (t : ℕ) → t < length w.program.threads → t < length s.program.threads
thread_in s w e t h = subst (λ (v : View). t < length v.program.threads) (sym e) h

pub heap_is : (s : Inside) (w : View) → view_of s ≡ w → heap s ≡ heap_of w
heap_is s w e = ap heap_of e

-- the state that was read is that of the thread
pub state_is : (s : Inside) → IsSound s → (t : ℕ) (state : ThreadState) → t < length s.program.threads → state ≡ get_or s.states t state →
    state ≡ state_of (thread_at (heap s) t)
state_is s h t state lt is =
    let below : t < length (heap s).threads = omega (arith, (well_formed s h).threads_length) in
    is ∙ state_read (heap s) s.states t state h.holds.states below

-- the command that was read is the one at the thread's place
pub command_is : (s : Inside) → IsSound s → (t : ℕ) (state : ThreadState) (script : List Command) (c : Command) → t < length s.program.threads →
    state ≡ get_or s.states t state → script ≡ get_or s.program.threads t script → state.done < length script → c ≡ get_or script state.done c →
    Some c ≡ command_at s.program (heap s) t
command_is s h t state script c lt state_ok script_ok below c_ok =
    let known = state_is s h t state lt state_ok in
    let same_script : script ≡ script_of s.program t = script_ok ∙ get_or_default s.program.threads t script _ lt in
    let found : slice_get script state.done ≡ Some c = slice_get_read script (length script) state.done c refl below c_ok in
    let at_place : slice_get script (thread_at (heap s) t).done ≡ Some c =
    subst (λ (n : ℕ). slice_get script n ≡ Some c) (ap (λ (x : ThreadState). x.done) known) found in
    sym (subst (λ (xs : List Command). slice_get xs (thread_at (heap s) t).done ≡ Some c) same_script at_place)

pub no_command : (s : Inside) → IsSound s → (t : ℕ) (state : ThreadState) (script : List Command) → t < length s.program.threads →
    state ≡ get_or s.states t state → script ≡ get_or s.program.threads t script → length script ≤ state.done →
    None ≡ command_at s.program (heap s) t
no_command s h t state script lt state_ok script_ok past =
    let known = state_is s h t state lt state_ok in
    let same_script : script ≡ script_of s.program t = script_ok ∙ get_or_default s.program.threads t script _ lt in
    let found : slice_get script state.done ≡ None = slice_get_past script state.done past in
    let at_place : slice_get script (thread_at (heap s) t).done ≡ None =
    subst (λ (n : ℕ). slice_get script n ≡ None) (ap (λ (x : ThreadState). x.done) known) found in
    sym (subst (λ (xs : List Command). slice_get xs (thread_at (heap s) t).done ≡ None) same_script at_place)

none_there : (o : Option Command) → o ≡ None → IsSome o → ⊥
none_there None e h = cc
none_there (Some c) e h = cc

-- a thread whose command is not done is not at the end of its script
pub command_left : (s : Inside) → IsSound s → (t : ℕ) (state : ThreadState) (script : List Command) → t < length s.program.threads →
    state ≡ get_or s.states t state → script ≡ get_or s.program.threads t script → IsSome (command_at s.program (heap s) t) →
    state.done < length script
command_left s h t state script lt state_ok script_ok there = elim (cases_lt state.done (length script)) [
  | inl below ↦ below
  | inr past ↦ (let none = no_command s h t state script lt state_ok script_ok past in absurd (none_there (command_at s.program (heap s) t) (sym none) there))
]

-- a cell's word is that of its living value
pub cell_is : (s : Inside) → IsSound s → (t : ℕ) (cell : Cell) → t < length s.program.threads → IsCell cell →
    cell_word s.cells t cell ≡ word_of (heap s).objects (cell_value (heap s) t cell)
cell_is s h t cell lt ok =
    CellsStand-read (heap s) t cell s.cells ok (omega (arith, (well_formed s h).threads_length)) h.holds.cells

pub cell_living_in : (s : Inside) → IsSound s → (t : ℕ) (cell : Cell) → t < length s.program.threads →
    IsLiving (heap s).objects (cell_value (heap s) t cell)
cell_living_in s h t cell lt = cell_living s.program (heap s) t cell (well_formed s h) lt

-- the word of a cell is that of a living value
pub cell_word_of : (s : Inside) (w : View) → IsSound s → view_of s ≡ w → (t : ℕ) (cell : Cell) (word : ℕ) → t < length w.program.threads →
    word ≡ word_of (heap_of w).objects (cell_value (heap_of w) t cell) → IsWord (heap_of w) word
cell_word_of s w h e t cell word lt is = record {
  value = cell_value (heap_of w) t cell;
  living = subst (λ (v : View). IsLiving (heap_of v).objects (cell_value (heap_of v) t cell)) e (cell_living_in s h t cell (thread_in s w e t lt));
  word_is = is;
}

pub cell_lives : (s : Inside) (w : View) → IsSound s → view_of s ≡ w → (t : ℕ) (cell : Cell) → t < length w.program.threads →
    IsLiving (heap_of w).objects (cell_value (heap_of w) t cell)
cell_lives s w h e t cell lt =
    subst (λ (v : View). IsLiving (heap_of v).objects (cell_value (heap_of v) t cell)) e (cell_living_in s h t cell (thread_in s w e t lt))

-- the word in a raw cell is the thread's
pub raw_is : (s : Inside) → IsSound s → (t : ℕ) (r : Raw) → t < length s.program.threads → IsRaw r → raw_word s.cells t r ≡ raw_value (heap s) t r
raw_is s h t r lt ok = CellsStand-raw (heap s) t r s.cells ok (omega (arith, (well_formed s h).threads_length)) h.holds.cells

-- a page is filled at most to its end
pub fill_small : (s : Inside) → IsSound s → (page : ℕ) (ty : PageType) (g fill first k : ℕ) → Used ty g fill first k ≡ entry_at s.pages page → fill ≤ 512
fill_small s h page ty g fill first k e =
    let on_heap : Used ty g fill first k ≡ entry_at (heap s).pages page = e ∙ ap (λ (ps : List Entry). entry_at ps page) h.holds.pages in
    let same : fill ≡ fill_of (entry_at (heap s).pages page) = ap fill_of on_heap in
    omega (arith, same, (entry_fill (entry_at (heap s).pages page) ((well_formed s h).sound.entries page)).most)
