use Rattle.std.proofs.Common.{◌≡◌, ◌++◌, take}
use Rattle.std.specs.List.{flat_map}
use Rattle.heap_terms.specs.declared.answers.Item.{Item}
use Rattle.heap_terms.specs.Text.{field, item_text}
use Rattle.journal_text.proofs.printing.pages.push_items.Given as goal

abbrev pub invariant-loop-item : goal.invariant-loop-item
invariant-loop-item l = l.out.text ≡ l.initial.out.text ++ flat_map (λ (item : Item). field (item_text item.name item.index item.count)) (take l.item-index l.items)
