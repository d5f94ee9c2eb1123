use Rattle.std.proofs.Common.{◌≡◌, ℕ, List, ◌++◌, take}
use Rattle.std.specs.Prelude.{vec_capacity}
use Rattle.heap_terms.specs.declared.kinds.Kind.TheVariants as kinds
use Rattle.copy_space.specs.CullNotes.{broken_of}
use Rattle.copy_space.specs.Settled.{is_settled}
use Rattle.copy_space.specs.State.{state}
use Rattle.weak_refs.specs.Breaking.{SameButBroken}
use Rattle.copy_space.specs.WeakNames.{AreNamed}
use Rattle.weak_refs.specs.Rewriting.{AreRewritten, HasSameParts}
use Rattle.weak_refs.proofs.breaking.break_dead.Given as goal

abbrev pub ghost-break_at : goal.ghost-break_at
ghost-break_at g a = g.a

abbrev pub invariant-loop-i : goal.invariant-loop-i
invariant-loop-i g l = record {
  left : AreRewritten g.a (state l.fn.copier) (state l.copier) kinds.Weak l.weak.listed l.i;
  noted : (names : List ℕ) → AreNamed g.a (state l.fn.copier) l.weak.listed names →
      l.copier.notes.now.breaks.items ≡ l.fn.copier.notes.now.breaks.items ++ broken_of g.a (is_settled g.a (state l.fn.copier)) (take l.i names);
  room : vec_capacity l.copier.notes.now.breaks ≡ vec_capacity l.fn.copier.notes.now.breaks;
  notes : SameButBroken l.fn.copier.notes.now l.copier.notes.now;
  parts : HasSameParts l.fn.copier l.copier;
}
