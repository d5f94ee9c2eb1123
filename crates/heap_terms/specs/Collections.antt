-- A collection: its passes from generation 0 on, and the heap after it. That `last` is the oldest generation that is
-- collected for certain is SBCL's; that all regions are closed first is SBCL's too. The loop is this project's own.
-- Only the order of the moves of each pass is left free.
use Rattle.std.specs.Prelude.{◌≡◌, ℕ, ◌+◌, List, [], ◌∷◌, map, None, Bool, true, false}
use Rattle.heap_terms.specs.declared.events.PassRecord.{PassRecord}
use Rattle.heap_terms.specs.Heap.{NamedHeap, Thread, thread_at, with_thread}
use Rattle.heap_terms.specs.Passes.{IsPass, after_pass}
use Rattle.heap_terms.specs.Policy.{is_raised, is_continued, target_of, cum_after, num_after}

-- a thread without open pages and runs
abbrev pub closed_thread : Thread → Thread
closed_thread th = record th { cons_page = None; boxed_page = None; unboxed_page = None; open_run = None }

-- the heap after all regions of all threads were closed
abbrev pub closed : NamedHeap → NamedHeap
closed a = record a { threads = map closed_thread a.threads }

-- the heap after the pass over generation g of a collection up to `last`, with the policy's numbers
abbrev pub after_pass_of : NamedHeap → ℕ → ℕ → PassRecord → NamedHeap
after_pass_of a last g r =
    let raised = is_raised a last g in
    record (after_pass a r) { cum = cum_after a g raised; num = num_after a g raised }

-- one pass of a collection up to `last`, over generation g
abbrev pub IsPassOf : NamedHeap → ℕ → ℕ → PassRecord → Type 0
IsPassOf a last g r = IsPass a g (target_of g (is_raised a last g)) r

-- whether the collection goes on after that pass
abbrev pub goes_on_after : NamedHeap → ℕ → ℕ → PassRecord → Bool
goes_on_after a last g r = is_continued (after_pass_of a last g r) last g (is_raised a last g)

-- the passes of a collection up to `last`, from generation g on: one after the other, just as long as it goes on
abbrev pub ArePasses : NamedHeap → ℕ → ℕ → List PassRecord → Type 0
ArePasses a last g [] = ⊥
ArePasses a last g (r ∷ []) = IsPassOf a last g r × (goes_on_after a last g r ≡ false)
ArePasses a last g (r ∷ s ∷ rest) = IsPassOf a last g r × (goes_on_after a last g r ≡ true) × ArePasses (after_pass_of a last g r) last (g + 1) (s ∷ rest)

-- the heap after them
abbrev pub after_passes : NamedHeap → ℕ → ℕ → List PassRecord → NamedHeap
after_passes a last g [] = a
after_passes a last g (r ∷ rest) = after_passes (after_pass_of a last g r) last (g + 1) rest

-- a collection up to `last`: nobody inhibits, and these are its passes once all regions are closed
pub record IsCollection (a : NamedHeap) (last : ℕ) (records : List PassRecord) : Type 0 where
  pub allowed : (t : ℕ) → (thread_at a t).inhibits ≡ 0
  pub passes : ArePasses (closed a) last 0 records

-- the heap after thread t made a collection; it owes nothing any more
unfoldable pub collected : NamedHeap → ℕ → ℕ → List PassRecord → NamedHeap
collected a t last passes =
    let b = after_passes (closed a) last 0 passes in
    with_thread b t (record (thread_at b t) { owed = None })
