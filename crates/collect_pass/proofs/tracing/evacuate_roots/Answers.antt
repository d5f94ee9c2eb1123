-- One exact root after another is evacuated.
use Rattle.std.proofs.Common.{◌≡◌, ℕ, length, subst, arith}
use Rattle.copy_space.specs.State.{state}
use Rattle.scavenge.proofs.Frames.{same-on, same-self}
use Rattle.collect_pass.proofs.Evacuating.{AreEvacuatedUpTo, none-evacuated, next-can, one-evacuated, all-evacuated}
use Rattle.collect_pass.proofs.tracing.evacuate_roots.Goals as goal

pub loop-word-init : goal.loop-word-init
loop-word-init g c = record { evacuated = none-evacuated g.h (state c.args.copier.now) c.args.exact.now c.requires; same = same-self c.args.copier.now }

pub evacuate-requires : goal.evacuate-requires
evacuate-requires g c =
    next-can g.h (state c.args.copier.now) c.args.exact.now c.requires (state c.loop-word.copier) c.loop-word.exact c.loop-word.word-index c.loop-word.invariant.evacuated (omega arith)

pub loop-word-preserved : goal.loop-word-preserved
loop-word-preserved g c =
    let e = c.evacuate.ensures in
    record {
      evacuated = one-evacuated g.h (state c.args.copier.now) c.args.exact.now c.requires (state c.loop-word.copier) c.loop-word.exact c.loop-word.word-index c.loop-word.invariant.evacuated (omega arith)
          (state c.evacuate.new.self) c.evacuate.result e.evacuates;
      same = same-on c.args.copier.now c.loop-word.copier c.evacuate.new.self c.loop-word.invariant.same
          (record { notes = e.notes; same_space = e.same_space; same_pages = e.same_pages; same_marks = e.same_marks; same_notes = e.same_notes });
    }

pub returns : goal.returns
returns g c =
    let end : c.loop-word.word-index ≡ length c.loop-word.exact = omega arith in
    record {
      roots = all-evacuated g.h (state c.args.copier.now) c.args.exact.now c.requires (state c.loop-word.copier) c.loop-word.exact
          (subst (λ (n : ℕ). AreEvacuatedUpTo g.h (state c.args.copier.now) (state c.loop-word.copier) c.args.exact.now c.loop-word.exact n) end c.loop-word.invariant.evacuated);
      same = c.loop-word.invariant.same;
    }
