-- One word more is read.
use Rattle.std.proofs.Common.{◌≡◌, ℕ, ◌+◌, inl, inr, subst, arith}
use Rattle.std.proofs.lemmas.Bool.{cases_lt}
use Rattle.std.specs.Prelude.{slice_index}
use Rattle.scavenge.specs.Clear.{IsElsewhere}
use Rattle.scavenge.proofs.clear.are_clear.Goals as goal

pub loop-word-preserved : goal.loop-word-preserved
loop-word-preserved c = λ k below. elim (cases_lt k c.loop-word.word-index) [
  | inl before ↦ c.loop-word.invariant k before
  | inr last ↦ (let at : c.loop-word.word-index ≡ 0 + k = omega arith in
      subst (λ (i : ℕ). IsElsewhere c.args.pages.now c.args.generation (slice_index c.args.words.now i)) at (c.refers_to.ensures c.if-refers_to.false))
]
