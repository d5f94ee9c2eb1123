use Rattle.std.proofs.Common.{◌<◌, length, arith}
use Rattle.std.proofs.lemmas.List.{length-map}
use Rattle.page_table.specs.Unpacked.{unpacked_all}
use Rattle.page_table.proofs.RunSearch.{searched_used, searched_free, searched_found, searched_all, free-unpacked}
use Rattle.page_table.proofs.table.lowest_run.Goals as goal
use Rattle.page_table.proofs.table.lowest_run.Goals.{then-not-is_free, else-not-is_free+else-p-start}

pub returns-then-p-start-clause-found : goal.returns-then-p-start-clause-found
returns-then-p-start-clause-found c =
    let inside : c.loop-p.p < length (unpacked_all c.args.entries.now) = rw length-map c.loop-p-test.true in
    searched_found _ _ _ c.loop-p.p c.loop-p.invariant
    (free-unpacked _ _ _ _ _ c.loop-p-test.true c.is_free.ensures (c.if-not-is_free.false))
    (omega (arith, c.loop-p.invariant.least)) inside

pub loop-p-preserved : goal.loop-p-preserved
loop-p-preserved c = elim c.if-not-is_free.branch [
  | then-not-is_free w ↦ rw w.start-is (searched_used _ _ _ c.loop-p.p c.requires.least c.loop-p.invariant
      (free-unpacked _ _ _ _ _ c.loop-p-test.true c.is_free.ensures (w.if-not-is_free.true)))
  | else-not-is_free+else-p-start w ↦ rw w.start-is (searched_free _ _ _ _ c.loop-p.invariant
      (free-unpacked _ _ _ _ _ c.loop-p-test.true c.is_free.ensures (w.if-not-is_free.false))
      (omega (arith, w.if-p-start.false, c.loop-p.invariant.least, c.loop-p.invariant.most)))
]

pub returns-clause-none : goal.returns-clause-none
returns-clause-none c = searched_all _ _ _ _ c.loop-p.invariant (rw length-map c.loop-p-test.false)
