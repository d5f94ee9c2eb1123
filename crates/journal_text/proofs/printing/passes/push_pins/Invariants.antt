use Rattle.std.proofs.Common.{◌≡◌, ◌++◌, take, codes}
use Rattle.std.specs.List.{flat_map}
use Rattle.heap_terms.specs.declared.events.PinAt.{PinAt}
use Rattle.heap_terms.specs.Text.{field, line, name_text, index_text}
use Rattle.journal_text.proofs.printing.passes.push_pins.Given as goal

abbrev pub invariant-loop-pin : goal.invariant-loop-pin
invariant-loop-pin l = l.out.text ≡ l.initial.out.text ++ flat_map (λ (q : PinAt). line (codes "pin" ++ field (name_text q.name) ++ field (index_text q.index))) (take l.pin-index l.pins)
