use Rattle.std.proofs.Common.{◌≡◌, ◌++◌, replicate}
use Rattle.script_text.specs.Runs.{pieces_text}
use Rattle.script_text.proofs.printing.push_run.Given as goal

abbrev pub invariant-loop : goal.invariant-loop
invariant-loop l = l.out.text ≡ l.initial.out.text ++ pieces_text (replicate l.counter (record { thread = l.thread; count = 65535 }))
