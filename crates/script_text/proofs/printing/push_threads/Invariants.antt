use Rattle.std.proofs.Common.{◌≡◌, ◌++◌, take}
use Rattle.std.specs.List.{flat_map}
use Rattle.heap_terms.specs.ScriptPrinting.{thread_text}
use Rattle.script_text.proofs.printing.push_threads.Given as goal

abbrev pub invariant-loop-commands : goal.invariant-loop-commands
invariant-loop-commands l = l.out.text ≡ l.initial.out.text ++ flat_map thread_text (take l.commands-index l.threads)
