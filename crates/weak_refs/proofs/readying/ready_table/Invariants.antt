use Rattle.std.proofs.Common.{ℕ, ◌<◌, length}
use Rattle.heap_terms.specs.Live.{is_live, KeepsSides}
use Rattle.copy_space.specs.Settled.{is_settled}
use Rattle.copy_space.specs.State.{state}
use Rattle.scavenge.specs.Fields.{IsSameCopier}
use Rattle.weak_refs.specs.Readying.{Readies, HasSameMoves}
use Rattle.weak_refs.specs.Tables.{IsTableNow, pair_at}
use Rattle.weak_refs.proofs.readying.ready_table.Given as goal

abbrev pub ghost-pair_count : goal.ghost-pair_count
ghost-pair_count g a = g.a

abbrev pub ghost-ready_pair : goal.ghost-ready_pair
ghost-ready_pair g a = g.a

abbrev pub ghost-note_pair : goal.ghost-note_pair
ghost-note_pair g a = g.a

abbrev pub invariant-loop-pair : goal.invariant-loop-pair
invariant-loop-pair g l = record {
  readies : Readies g.a (state l.fn.copier) (state l.copier);
  ready : (q : IsTableNow g.a (state l.fn.copier) l.start) → HasSameMoves (state l.fn.copier) (state l.copier) → (k : ℕ) → k < l.pair → k < length q.pairs →
      KeepsSides q.w (is_live (is_settled g.a (state l.copier)) (pair_at q.pairs k).0) (is_live (is_settled g.a (state l.copier)) (pair_at q.pairs k).1);
  same : IsSameCopier l.fn.copier l.copier;
}
