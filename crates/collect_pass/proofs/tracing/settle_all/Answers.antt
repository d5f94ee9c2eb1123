-- One round more, and the last one.
use Rattle.copy_space.specs.State.{state}
use Rattle.scavenge.proofs.Frames.{same-on}
use Rattle.collect_pass.proofs.SettlingLoop.{first-round, last-noting, last-settles, last-settled, next-round, round-can, round-ready}
use Rattle.collect_pass.proofs.tracing.settle_all.Goals as goal

pub loop-done-init : goal.loop-done-init
loop-done-init g c =
    let e = c.scavenge_all-done.ensures in
    record {
      round = first-round g.a (state c.args.copier.now) (state c.scavenge_all-done.new.copier) c.args.weak.now c.scavenge_all-done.new.weak c.scavenge_all-done.result c.requires e.scans e.noting e.scanned e.whole;
      same = record { notes = e.notes; same_space = e.same_space; same_pages = e.same_pages; same_marks = e.same_marks; same_notes = e.same_notes };
    }

pub ready_entries-requires : goal.ready_entries-requires
ready_entries-requires g c =
    round-ready g.a (state c.args.copier.now) (state c.loop-done.copier) c.args.weak.now c.loop-done.weak c.loop-done.done c.loop-done.invariant.round

pub scavenge_all-done-requires-in-loop-done : goal.scavenge_all-done-requires-in-loop-done
scavenge_all-done-requires-in-loop-done g c =
    round-can g.a (state c.args.copier.now) (state c.loop-done.copier) c.args.weak.now c.loop-done.weak c.loop-done.done c.loop-done.invariant.round
    (state c.ready_entries.new.copier) c.ready_entries.ensures.readies

pub loop-done-preserved : goal.loop-done-preserved
loop-done-preserved g c =
    let e = c.scavenge_all-done-in-loop-done.ensures in
    record {
      round = next-round g.a (state c.args.copier.now) (state c.loop-done.copier) c.args.weak.now c.loop-done.weak c.loop-done.done c.loop-done.invariant.round
          (state c.ready_entries.new.copier) c.ready_entries.ensures.readies (state c.scavenge_all-done-in-loop-done.new.copier) c.scavenge_all-done-in-loop-done.new.weak
          c.scavenge_all-done-in-loop-done.result e.scans e.noting e.scanned e.whole;
      same = same-on c.args.copier.now c.ready_entries.new.copier c.scavenge_all-done-in-loop-done.new.copier
          (same-on c.args.copier.now c.loop-done.copier c.ready_entries.new.copier c.loop-done.invariant.same c.ready_entries.ensures.same)
          (record { notes = e.notes; same_space = e.same_space; same_pages = e.same_pages; same_marks = e.same_marks; same_notes = e.same_notes });
    }

pub returns-clause-settles : goal.returns-clause-settles
returns-clause-settles g c =
    last-settles g.a (state c.args.copier.now) (state c.loop-done.copier) c.args.weak.now c.loop-done.weak c.loop-done.done c.loop-done.invariant.round
    (state c.ready_entries.new.copier) c.ready_entries.ensures.readies (c.ready_entries.ensures.stayed c.loop-done-test.false) (c.ready_entries.ensures.ready c.loop-done-test.false)

pub returns-clause-settled : goal.returns-clause-settled
returns-clause-settled g c =
    last-settled g.a (state c.args.copier.now) (state c.loop-done.copier) c.args.weak.now c.loop-done.weak c.loop-done.done c.loop-done.invariant.round
    (state c.ready_entries.new.copier) c.ready_entries.ensures.readies (c.ready_entries.ensures.stayed c.loop-done-test.false) (c.ready_entries.ensures.ready c.loop-done-test.false)

pub returns-clause-noting : goal.returns-clause-noting
returns-clause-noting g c =
    last-noting g.a (state c.args.copier.now) (state c.loop-done.copier) c.args.weak.now c.loop-done.weak c.loop-done.done c.loop-done.invariant.round
    (state c.ready_entries.new.copier) c.ready_entries.ensures.readies (c.ready_entries.ensures.stayed c.loop-done-test.false) (c.ready_entries.ensures.ready c.loop-done-test.false)
