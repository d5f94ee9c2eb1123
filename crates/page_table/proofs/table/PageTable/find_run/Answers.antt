use Rattle.std.proofs.Common.{◌≡◌, ◌∙◌, ap}
use Rattle.page_table.specs.Unpacked.{unpacked_all}
use Rattle.page_table.proofs.table.PageTable.find_run.Goals as goal

pub returns-clause-none : goal.returns-clause-none
returns-clause-none c =
    let e : unpacked_all c.as_slice.result.now ≡ c.args.self.now = ap unpacked_all c.as_slice.ensures.value ∙ c.self.view_is in
    rw e at c.lowest_run.ensures.none
