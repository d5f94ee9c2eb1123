-- The policy's numbers after one pass of a collection.
use Rattle.std.proofs.Common.{◌≡◌, ℕ, ◌+◌, ◌≤◌, List, sym, ◌∙◌, ap}
use Rattle.std.specs.Prelude.{◌==◌, if◌then◌else◌, slice_index}
use Rattle.copy_space.specs.declared.notes.Pass.{Pass}
use Rattle.generation_policy.specs.declared.stats.GenStats.{GenStats}
use Rattle.generation_policy.specs.Numbers.{StatsStand}
use Rattle.generation_policy.specs.Plan.{IsAccountedAfter, IsAccountedBefore}
use Rattle.heap_laws.proofs.SoundHeaps.{kept-listed, kept_words, pass-allocated}
use Rattle.heap_terms.specs.declared.events.PassRecord.{PassRecord}
use Rattle.heap_terms.specs.declared.limits.TheConstants.{OLDEST_GENERATION}
use Rattle.heap_terms.specs.Generations.{allocated}
use Rattle.heap_terms.specs.Heap.{NamedHeap}
use Rattle.heap_terms.specs.Passes.{IsPass, after_pass}
use Rattle.heap_terms.specs.Policy.{target_of}
use Rattle.lisp_heap.specs.Counted.{HasKept, counted_heap}
use Rattle.lisp_heap.specs.Kept.{listed_words}

pub accounted_still : (a : NamedHeap) (pass : Pass) (before mid : GenStats) (kept : ℕ) → IsAccountedBefore a pass before → HasKept before mid pass kept → IsAccountedBefore a pass mid
accounted_still a pass before mid kept accounted has = record { cum_is = has.cum ∙ accounted.cum_is; num_is = has.num ∙ accounted.num_is }

pub stand_then : (a : NamedHeap) (r : PassRecord) (pass : Pass) (old before mid final : GenStats) (kept : ℕ) → IsPass a pass.generation (target_of pass.generation pass.raise) r →
    StatsStand a old → before.allocated ≡ old.allocated → HasKept before mid pass kept → kept ≡ listed_words a r → final.allocated ≡ mid.allocated → IsAccountedAfter a pass final →
    StatsStand (counted_heap a r pass) final
stand_then a r pass old before mid final kept is_pass stand same has listed still after = record {
  allocated_is = words;
  cum_is = after.cum_is;
  num_is = after.num_is;
}
  where
    words : (i : ℕ) → i ≤ OLDEST_GENERATION → slice_index final.allocated i ≡ allocated (after_pass a r) i
    words i l =
        let sum : ℕ → ℕ → ℕ → ℕ → ℕ = λ target generation kept was. (if target == i then kept else 0) + (if generation == i then 0 else was) in
        let target = target_of pass.generation pass.raise in
        let all : kept ≡ kept_words a r = listed ∙ sym (kept-listed a pass.generation target r is_pass) in
        let was : slice_index before.allocated i ≡ allocated a i = ap (λ (ws : List ℕ). slice_index ws i) same ∙ stand.allocated_is i l in
        ap (λ (ws : List ℕ). slice_index ws i) still ∙ has.words i l
        ∙ ap (λ (k : ℕ). sum target pass.generation k (slice_index before.allocated i)) all
        ∙ ap (λ (n : ℕ). sum target pass.generation (kept_words a r) n) was
        ∙ ap (λ (t : ℕ). sum t pass.generation (kept_words a r) (allocated a i)) (sym is_pass.target)
        ∙ ap (λ (g : ℕ). sum r.target g (kept_words a r) (allocated a i)) (sym is_pass.generation)
        ∙ sym (pass-allocated a r i)
