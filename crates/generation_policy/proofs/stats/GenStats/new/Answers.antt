use Rattle.std.proofs.Common.{◌≡◌, ℕ, ◌<◌, refl, arith, get_or, replicate}
use Rattle.std.proofs.lemmas.List.{get_or-replicate}
use Rattle.heap_terms.specs.Heap.{start}
use Rattle.generation_policy.proofs.stats.GenStats.new.Goals as goal

pub returns-clause-fresh : goal.returns-clause-fresh
returns-clause-fresh c = refl

pub returns-clause-stand : goal.returns-clause-stand
unfolding start
returns-clause-stand c p = record { allocated_is = λ g low. zeros g (omega arith); cum_is = refl; num_is = refl }
  where
    zeros : (g : ℕ) → g < 7 → get_or {A = ℕ} (replicate 7 0) g 0 ≡ 0
    zeros g low = get_or-replicate 7 g 0 0 low
