use Rattle.std.proofs.Common.{◌≡◌, ℕ, ◌≤◌, ◌<◌, List, subst, true}
use Rattle.heap_terms.specs.Heap.{entry_at}
use Rattle.heap_terms.specs.Regions.{is_free}
use Rattle.page_table.specs.declared.packed.Packed.{Packed}
use Rattle.page_table.specs.Unpacked.{unpacked_all}
use Rattle.heap_terms.specs.declared.pages.Entry.TheVariants as entries
use Rattle.page_table.proofs.RunSearch.{unpacked-written}
use Rattle.page_table.proofs.UsedEnd.{table-freed}
use Rattle.page_table.proofs.table.PageTable.free_page.Goals as goal

pub returns : goal.returns
returns c = unpacked-written c.self.inside.entries.items _ c.args.p c.free.result c.free.result (λ _. entries.Free) c.self.view_is c.requires.inside c.free.ensures

pub invariant_of-self : goal.invariant_of-self
invariant_of-self c =
    table-freed c.self.inside.entries.items c.self.inside.used_end c.args.p _ c.free.result c.self.invariant c.free.ensures (rw c.self.view_is c.requires.inside)
    c.used_below-self-inside.ensures.most
    (subst (λ (items : List Packed). (p : ℕ) → c.used_below-self-inside.result ≤ p → p < c.self.inside.used_end → is_free (entry_at (unpacked_all items) p) ≡ true)
    c.as_slice.ensures.value c.used_below-self-inside.ensures.free)
