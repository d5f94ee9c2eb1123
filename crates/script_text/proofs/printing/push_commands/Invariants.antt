use Rattle.std.proofs.Common.{◌≡◌, ◌++◌, take}
use Rattle.std.specs.List.{flat_map}
use Rattle.heap_terms.specs.Text.{command_text, line}
use Rattle.script_text.proofs.printing.push_commands.Given as goal

abbrev pub invariant-loop-command : goal.invariant-loop-command
invariant-loop-command l = l.out.text ≡ l.initial.out.text ++ flat_map (λ c. line (command_text c)) (take l.command-index l.commands)
