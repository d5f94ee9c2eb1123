-- One field more is scanned.
use Rattle.std.proofs.Common.{◌≡◌, ℕ, ◌-◌, subst, arith}
use Rattle.copy_space.specs.State.{state}
use Rattle.scavenge.specs.Fields.{AreNew}
use Rattle.scavenge.proofs.Frames.{scans-on, same-on, fields-one, new-next}
use Rattle.scavenge.proofs.fields.scan_fields.Goals as goal

pub scan_field-requires : goal.scan_field-requires
scan_field-requires g c =
    fields-one g.a (state c.args.copier.now) (state c.loop-index.copier) c.args.from c.args.count c.loop-index.index c.requires c.loop-index.invariant.scans (omega arith) (omega arith)

pub loop-index-preserved : goal.loop-index-preserved
loop-index-preserved g c = record {
  scans = scans-on g.a (state c.args.copier.now) (state c.loop-index.copier) (state c.scan_field.new.copier) c.loop-index.invariant.scans c.scan_field.ensures.scans;
  new = new-next g.a (state c.args.copier.now) (state c.loop-index.copier) (state c.scan_field.new.copier) c.args.from c.loop-index.index (omega arith)
      c.loop-index.invariant.scans c.scan_field.ensures.scans c.loop-index.invariant.new c.scan_field.ensures.new;
  same = same-on c.args.copier.now c.loop-index.copier c.scan_field.new.copier c.loop-index.invariant.same c.scan_field.ensures.same;
}

pub returns-clause-new : goal.returns-clause-new
returns-clause-new g c =
    let all : c.loop-index.index - c.args.from ≡ c.args.count = omega arith in
    subst (λ (n : ℕ). AreNew g.a (state c.args.copier.now) (state c.loop-index.copier) c.args.from n) all c.loop-index.invariant.new
