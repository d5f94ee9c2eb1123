use Rattle.std.proofs.Common.{◌≡◌, ◌++◌, take}
use Rattle.std.specs.List.{flat_map}
use Rattle.heap_terms.specs.declared.events.Placing.{Placing}
use Rattle.heap_terms.specs.Text.{line, placing_text}
use Rattle.journal_text.proofs.printing.passes.push_moves.Given as goal

abbrev pub invariant-loop-placing : goal.invariant-loop-placing
invariant-loop-placing l = l.out.text ≡ l.initial.out.text ++ flat_map (λ (m : Placing). line (placing_text m.name m.old m.new)) (take l.placing-index l.moves)
