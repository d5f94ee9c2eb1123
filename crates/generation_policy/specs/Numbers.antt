-- When the policy's numbers are those of a heap, and which passes there are.
use Rattle.std.specs.Prelude.{◌≡◌, ℕ, ◌*◌, ◌<◌, ◌≤◌, ◌^◌, IsTrue, replicate, slice_index}
use Rattle.copy_space.specs.declared.notes.Pass.{Pass}
use Rattle.heap_terms.specs.declared.limits.TheConstants.{OLDEST_COLLECTED, OLDEST_GENERATION}
use Rattle.heap_terms.specs.Generations.{allocated}
use Rattle.heap_terms.specs.Heap.{NamedHeap}
use Rattle.generation_policy.specs.declared.stats.GenStats.{GenStats}

-- the numbers of a heap before its first event
abbrev pub fresh_stats : GenStats
fresh_stats = record { allocated = replicate 7 0; cum = replicate 7 0; num = replicate 7 0 }

-- the numbers are those of a heap: the words of each generation's objects, and what the heap keeps of the policy
pub record StatsStand (a : NamedHeap) (stats : GenStats) : Type 0 where
  pub allocated_is : (g : ℕ) → g ≤ OLDEST_GENERATION → slice_index stats.allocated g ≡ allocated a g
  pub cum_is : stats.cum ≡ a.cum
  pub num_is : stats.num ≡ a.num

-- the two sides of the comparison of a generation's age with three quarters fit 64 bits
pub record IsMeasurable (stats : GenStats) (g : ℕ) : Type 0 where
  pub words : 3 * slice_index stats.allocated g < 2 ^ 64
  pub sums : 4 * slice_index stats.cum g < 2 ^ 64

-- a pass is over one of the generations that are collected, and the oldest of these is never raised
pub record IsPossible (pass : Pass) : Type 0 where
  pub collected : pass.generation ≤ OLDEST_COLLECTED
  pub raised : IsTrue pass.raise → pass.generation < OLDEST_COLLECTED
