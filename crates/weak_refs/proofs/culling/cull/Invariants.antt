use Rattle.std.proofs.Common.{◌≡◌, ℕ, List, ◌++◌, take}
use Rattle.std.specs.Prelude.{vec_capacity}
use Rattle.heap_terms.specs.declared.kinds.Kind.TheVariants as kinds
use Rattle.copy_space.specs.CullNotes.{culled_of}
use Rattle.copy_space.specs.Settled.{is_settled}
use Rattle.copy_space.specs.State.{state}
use Rattle.weak_refs.specs.Culling.{SameButCulled}
use Rattle.copy_space.specs.WeakNames.{AreNamed}
use Rattle.weak_refs.specs.Rewriting.{AreRewritten, HasSameParts}
use Rattle.weak_refs.proofs.culling.cull.Given as goal

abbrev pub ghost-cull_at : goal.ghost-cull_at
ghost-cull_at g a = g.a

abbrev pub invariant-loop-i : goal.invariant-loop-i
invariant-loop-i g l = record {
  left : AreRewritten g.a (state l.fn.copier) (state l.copier) kinds.Table l.weak.listed l.i;
  noted : (names : List ℕ) → AreNamed g.a (state l.fn.copier) l.weak.listed names →
      l.copier.notes.now.culls.items ≡ l.fn.copier.notes.now.culls.items ++ culled_of g.a (is_settled g.a (state l.fn.copier)) (take l.i names);
  room : vec_capacity l.copier.notes.now.culls ≡ vec_capacity l.fn.copier.notes.now.culls;
  notes : SameButCulled l.fn.copier.notes.now l.copier.notes.now;
  parts : HasSameParts l.fn.copier l.copier;
}
