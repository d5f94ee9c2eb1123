-- The policy's numbers around one pass of a collection.
use Rattle.std.specs.Prelude.{◌≡◌, ℕ, ◌+◌, ◌≤◌, ◌^◌, ◌==◌, length, if◌then◌else◌, slice_index}
use Rattle.copy_space.specs.declared.notes.Pass.{Pass}
use Rattle.generation_policy.specs.declared.stats.GenStats.{GenStats}
use Rattle.generation_policy.specs.Numbers.{IsPossible, StatsStand}
use Rattle.heap_laws.specs.Numbers.{HasNumbers}
use Rattle.heap_terms.specs.declared.events.PassRecord.{PassRecord}
use Rattle.heap_terms.specs.declared.limits.TheConstants.{MOST_COMMANDS, OLDEST_GENERATION}
use Rattle.heap_terms.specs.Heap.{NamedHeap}
use Rattle.heap_terms.specs.Passes.{after_pass}
use Rattle.heap_terms.specs.Policy.{cum_after, num_after, target_of}

-- the heap after a pass, with the policy's numbers
abbrev pub counted_heap : NamedHeap → PassRecord → Pass → NamedHeap
counted_heap a r pass = record (after_pass a r) { cum = cum_after a pass.generation pass.raise; num = num_after a pass.generation pass.raise }

-- the numbers are those of the heap, and so small that they can be counted on
pub record CanCount (a : NamedHeap) (stats : GenStats) (pass : Pass) : Type 0 where
  pub possible : IsPossible pass
  pub stand : StatsStand a stats
  pub passes : ℕ
  pub few_passes : passes ≤ 2 ^ 30
  pub numbers : HasNumbers a passes
  pub few : length a.objects ≤ MOST_COMMANDS

-- the words of the pass's generation became those that it kept, and are the target's
pub record HasKept (old new : GenStats) (pass : Pass) (kept : ℕ) : Type 0 where
  pub words : (i : ℕ) → i ≤ OLDEST_GENERATION → slice_index new.allocated i
      ≡ (if target_of pass.generation pass.raise == i then kept else 0) + (if pass.generation == i then 0 else slice_index old.allocated i)
  pub cum : new.cum ≡ old.cum
  pub num : new.num ≡ old.num
