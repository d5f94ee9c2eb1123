use Rattle.std.proofs.Common.{arith}
use Rattle.page_table.proofs.RunSearch.{unpacked-resized}
use Rattle.page_table.proofs.UsedEnd.{table-new}
use Rattle.page_table.proofs.table.PageTable.new.Goals as goal

pub returns-in-Ok : goal.returns-in-Ok
returns-in-Ok c =
    unpacked-resized _ _ c.free.result _ c.new-entries.result.items _ (omega (arith, c.new-entries.ensures.len)) c.new-entries.ensures.items
    c.in-Ok.ensures.items c.free.ensures

pub invariant_of-result : goal.invariant_of-result
invariant_of-result c =
    table-new c.resize.new.self.items c.args.pages c.requires.least c.requires.most
    (unpacked-resized _ _ c.free.result _ c.new-entries.result.items _ (omega (arith, c.new-entries.ensures.len)) c.new-entries.ensures.items
    c.in-Ok.ensures.items c.free.ensures)
