-- Which pass comes next in a collection, and what the policy's numbers are around a pass. The loop and its numbers are
-- this project's own. Nothing is left free.
use Rattle.std.specs.Prelude.{◌≡◌, ℕ, ◌+◌, List, Option, Some, None, if◌then◌else◌, slice_index, slice_set}
use Rattle.copy_space.specs.declared.notes.Pass.{Pass}
use Rattle.heap_terms.specs.Generations.{allocated}
use Rattle.heap_terms.specs.Heap.{NamedHeap}
use Rattle.heap_terms.specs.Policy.{is_raised, is_continued, cum_after, cum_of, num_after}
use Rattle.generation_policy.specs.declared.stats.GenStats.{GenStats}

-- the pass over generation g of a collection up to `last`
abbrev pub pass_over : NamedHeap → ℕ → ℕ → Pass
pass_over a last g = record { generation = g; raise = is_raised a last g }

-- the pass of a collection up to `last` that follows in a heap: the first one, or the one after another, if it goes on
abbrev pub planned : NamedHeap → ℕ → Option Pass → Option Pass
planned a last None = Some (pass_over a last 0)
planned a last (Some pass) =
    if is_continued a last pass.generation pass.raise then Some (pass_over a last (pass.generation + 1)) else None

-- `cum` when a pass is about to be made: a raise adds the words of the next generation to its number
abbrev pub cum_raised : GenStats → Pass → List ℕ
cum_raised stats pass =
    let next = pass.generation + 1 in
    if pass.raise then slice_set stats.cum next (slice_index stats.cum next + slice_index stats.allocated next) else stats.cum

-- `cum` when it was made: its generation was collected
abbrev pub cum_collected : GenStats → Pass → List ℕ
cum_collected stats pass = slice_set stats.cum pass.generation 0

-- `num` when it was made
abbrev pub num_passed : GenStats → Pass → List ℕ
num_passed stats pass =
    slice_set stats.num pass.generation (if pass.raise then 0 else slice_index stats.num pass.generation + 1)

-- the numbers of a heap, once a pass over it is accounted for that is about to be made
pub record IsAccountedBefore (a : NamedHeap) (pass : Pass) (stats : GenStats) : Type 0 where
  pub cum_is : stats.cum ≡ (let next = pass.generation + 1 in
      if pass.raise then slice_set a.cum next (cum_of a next + allocated a next) else a.cum)
  pub num_is : stats.num ≡ a.num

-- the numbers once it is accounted for that the pass was made
pub record IsAccountedAfter (a : NamedHeap) (pass : Pass) (stats : GenStats) : Type 0 where
  pub cum_is : stats.cum ≡ cum_after a pass.generation pass.raise
  pub num_is : stats.num ≡ num_after a pass.generation pass.raise
