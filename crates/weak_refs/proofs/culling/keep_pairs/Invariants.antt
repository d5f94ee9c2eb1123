use Rattle.std.proofs.Common.{◌≡◌}
use Rattle.std.specs.Prelude.{vec_capacity}
use Rattle.copy_space.specs.State.{state}
use Rattle.weak_refs.specs.Culling.{ArePairsKept, AreCullsNoted, SameButCulled}
use Rattle.weak_refs.specs.Rewriting.{HasSameParts}
use Rattle.weak_refs.specs.Tables.{IsTableNow}
use Rattle.weak_refs.proofs.culling.keep_pairs.Given as goal

abbrev pub ghost-keep_pair : goal.ghost-keep_pair
ghost-keep_pair g a = g.a

abbrev pub invariant-loop-pair : goal.invariant-loop-pair
invariant-loop-pair g l = record {
  kept : (q : IsTableNow g.a (state l.fn.copier) l.start) → ArePairsKept g.a (state l.fn.copier) (state l.copier) l.start q l.pair l.to;
  noted : (q : IsTableNow g.a (state l.fn.copier) l.start) → AreCullsNoted g.a (state l.fn.copier) l.start q l.pair l.fn.copier.notes.now l.copier.notes.now;
  room : vec_capacity l.copier.notes.now.culls ≡ vec_capacity l.fn.copier.notes.now.culls;
  notes : SameButCulled l.fn.copier.notes.now l.copier.notes.now;
  parts : HasSameParts l.fn.copier l.copier;
}
