-- What a commit adds to the policy's numbers, and what `auto` counts of commits: the words since it last asked for a
-- collection, and how often it asked.
use Rattle.std.specs.Prelude.{◌≡◌, ℕ, ◌+◌, ◌≤◌, ◌==◌, List, Bool, false, if◌then◌else◌, nat_le, nat_lt, slice_index}
use Rattle.heap_terms.specs.declared.limits.TheConstants.{MOST_TRIGGERS, OLDEST_GENERATION}
use Rattle.generation_policy.specs.declared.stats.GenStats.{GenStats}
use Rattle.lisp_heap.specs.State.{with_asked}
use Rattle.lisp_heap.specs.declared.states.ThreadState.{ThreadState}

-- the numbers with so many words more in generation 0
pub record HasMore (old new : GenStats) (size : ℕ) : Type 0 where
  pub words : (g : ℕ) → g ≤ OLDEST_GENERATION → slice_index new.allocated g ≡ slice_index old.allocated g + (if 0 == g then size else 0)
  pub cum : new.cum ≡ old.cum
  pub num : new.num ≡ old.num

-- whether a commit of a size lets `auto` ask for a collection
abbrev pub asks : ℕ → ℕ → ℕ → ℕ → Bool
asks auto counted triggered size = if auto == 0 then false else (if nat_le auto (counted + size) then nat_lt triggered MOST_TRIGGERS else false)

-- the words that are counted after it
abbrev pub counted_after : ℕ → ℕ → ℕ → ℕ → ℕ
counted_after auto counted triggered size = if asks auto counted triggered size then 0 else (if auto == 0 then counted else counted + size)

-- how often it asked
abbrev pub triggered_after : ℕ → ℕ → ℕ → ℕ → ℕ
triggered_after auto counted triggered size = if asks auto counted triggered size then triggered + 1 else triggered

-- the states after a commit of thread t was counted
abbrev pub states_counted : ℕ → ℕ → ℕ → List ThreadState → ℕ → ℕ → List ThreadState
states_counted auto counted triggered states t size = if asks auto counted triggered size then with_asked states t else states
