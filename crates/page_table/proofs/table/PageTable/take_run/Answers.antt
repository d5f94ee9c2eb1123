use Rattle.std.proofs.Common.{◌≡◌, ap, length, arith}
use Rattle.std.proofs.lemmas.List.{length-map}
use Rattle.page_table.specs.Unpacked.{unpacked, unpacked_all}
use Rattle.page_table.proofs.UsedEnd.{table-taken}
use Rattle.page_table.proofs.table.PageTable.take_run.Goals as goal

pub invariant_of-self : goal.invariant_of-self
invariant_of-self c =
    let long : length (unpacked_all c.self.inside.entries.items) ≡ length c.args.self.now = ap length c.self.view_is in
    let of_pages = length-map c.self.inside.entries.items unpacked in
    let same : length c.as_mut_slice.result.now ≡ length c.self.inside.entries.items = ap length c.as_mut_slice.ensures.value in
    table-taken c.self.inside.entries.items c.as_mut_slice.result.now c.fill_run.new.entries c.self.inside.entries.len c.self.inside.used_end c.args.first c.args.k
    c.max-self-inside.result _ c.self.invariant c.as_mut_slice.ensures.value c.as_mut_slice.ensures.len (omega (arith, c.requires.inside)) c.fill_run.ensures c.max-self-inside.ensures
