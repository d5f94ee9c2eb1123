use Rattle.std.proofs.Common.{ap, ◌∙◌}
use Rattle.heap_terms.specs.declared.pages.Entry.{Entry}
use Rattle.heap_terms.specs.PageRuns.{with_generation}
use Rattle.page_table.specs.Unpacked.{unpacked}
use Rattle.page_table.proofs.RunSearch.{unpacked-written}
use Rattle.page_table.proofs.UsedEnd.{table-written}
use Rattle.page_table.proofs.table.PageTable.set_gen.Goals as goal

pub returns : goal.returns
returns c =
    let change = λ (e : Entry). with_generation e c.args.generation in
    unpacked-written c.self.inside.entries.items _ c.args.p c.index.result.now c.with_generation-entry.result change c.self.view_is
    c.requires.inside (c.with_generation-entry.ensures ∙ ap (λ x. change (unpacked x)) c.index.ensures)

pub invariant_of-self : goal.invariant_of-self
invariant_of-self c = table-written c.self.inside.entries.items c.self.inside.used_end c.args.p _ c.self.invariant (rw c.self.view_is c.requires.used)
