use Rattle.std.proofs.Common.{◌≡◌, ◌++◌, take, codes}
use Rattle.std.specs.List.{flat_map}
use Rattle.heap_terms.specs.Text.{field, line, name_text}
use Rattle.journal_text.proofs.printing.passes.push_breaks.Given as goal

abbrev pub invariant-loop-name : goal.invariant-loop-name
invariant-loop-name l = l.out.text ≡ l.initial.out.text ++ flat_map (λ name. line (codes "break" ++ field (name_text name))) (take l.name-index l.breaks)
