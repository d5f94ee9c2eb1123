use Rattle.std.proofs.Common.{◌≡◌, ◌++◌, replicate}
use Rattle.script_text.proofs.schedules.push_turns.Given as goal

abbrev pub invariant-loop : goal.invariant-loop
invariant-loop l = l.schedule.items ≡ l.fn.schedule.items ++ replicate l.counter l.turns.thread
