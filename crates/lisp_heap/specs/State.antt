-- What the World keeps of a thread beside its cells.
use Rattle.std.specs.Prelude.{ℕ, ◌+◌, ◌==◌, List, Option, Some, None, false, true, if◌then◌else◌, slice_index_or, slice_set, unwrap_or}
use Rattle.heap_terms.specs.declared.kinds.PageType.{PageType}
use Rattle.heap_terms.specs.declared.kinds.PageType.TheVariants as types
use Rattle.heap_terms.specs.Heap.{Thread}
use Rattle.heap_terms.specs.Regions.{is_small}
use Rattle.lisp_heap.specs.declared.states.ThreadState.{ThreadState}

abbrev pub fresh_state : ThreadState
fresh_state = record { done = 0; inhibits = 0; owed = None; ended = false; cons_page = None; boxed_page = None; unboxed_page = None; open_run = None }

-- what the World keeps of a thread of the named heap
abbrev pub state_of : Thread → ThreadState
state_of th = record {
  done = th.done;
  inhibits = th.inhibits;
  owed = th.owed;
  ended = th.ended;
  cons_page = th.cons_page;
  boxed_page = th.boxed_page;
  unboxed_page = th.unboxed_page;
  open_run = th.open_run;
}

-- the generation up to which a thread of a state must collect now
abbrev pub state_due : ThreadState → Option ℕ
state_due s = if s.inhibits == 0 then s.owed else None

abbrev pub state_page : ThreadState → PageType → Option ℕ
state_page s types.Cons = s.cons_page
state_page s types.Boxed = s.boxed_page
state_page s types.Unboxed = s.unboxed_page

-- the states with one thread one command further in its script
abbrev pub advanced : List ThreadState → ℕ → List ThreadState
advanced states t =
    let state = slice_index_or states t fresh_state in
    slice_set states t (record state { done = state.done + 1 })

-- the state of a thread with another open page of a type
abbrev pub state_with_page : ThreadState → PageType → ℕ → ThreadState
state_with_page s types.Cons page = record s { cons_page = Some page }
state_with_page s types.Boxed page = record s { boxed_page = Some page }
state_with_page s types.Unboxed page = record s { unboxed_page = Some page }

-- the state of a thread for which a run of k pages was opened: one page is its open page of the type, a longer run is
-- its open run
abbrev pub state_with_region : ThreadState → PageType → ℕ → ℕ → ThreadState
state_with_region s ty first k = if k == 1 then state_with_page s ty first else record s { open_run = Some first }

-- the states after a run of k pages was opened for one thread
abbrev pub with_region_open : List ThreadState → ℕ → PageType → ℕ → ℕ → List ThreadState
with_region_open states t ty first k = slice_set states t (state_with_region (slice_index_or states t fresh_state) ty first k)

-- the state of a thread that is one command further, which made an object of a size: a large one uses the run up
abbrev pub state_placed : ThreadState → ℕ → ThreadState
state_placed s size = record (if is_small size then s else record s { open_run = None }) { done = s.done + 1 }

-- the states after one thread's object of a size was committed
abbrev pub with_placed : List ThreadState → ℕ → ℕ → List ThreadState
with_placed states t size = slice_set states t (state_placed (slice_index_or states t fresh_state) size)

-- the states with another inhibit count of one thread
abbrev pub with_inhibits : List ThreadState → ℕ → ℕ → List ThreadState
with_inhibits states t count = slice_set states t (record (slice_index_or states t fresh_state) { inhibits = count })

-- the states with another generation up to which one thread owes a collection
abbrev pub with_owed : List ThreadState → ℕ → Option ℕ → List ThreadState
with_owed states t owed = slice_set states t (record (slice_index_or states t fresh_state) { owed = owed })

-- the states after one thread came to owe at least a collection of generation 0
abbrev pub with_asked : List ThreadState → ℕ → List ThreadState
with_asked states t = with_owed states t (Some (unwrap_or (slice_index_or states t fresh_state).owed 0))

-- the state of a thread whose regions were closed
abbrev pub state_closed : ThreadState → ThreadState
state_closed s = record s { cons_page = None; boxed_page = None; unboxed_page = None; open_run = None }

-- the states after one thread has ended
abbrev pub with_ended : List ThreadState → ℕ → List ThreadState
with_ended states t = slice_set states t (record fresh_state { done = (slice_index_or states t fresh_state).done; ended = true })
