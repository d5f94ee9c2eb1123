use Rattle.std.proofs.Common.{◌≡◌, ◌<◌, ◌++◌, ◌∙◌, length, rules, arith}
use Rattle.std.specs.Prelude.{codes}
use Rattle.script_text.specs.Runs.{runs_text}
use Rattle.script_text.proofs.Printed.{schedule_is}
use Rattle.script_text.proofs.printing.push_schedule.Goals as goal

pub returns : goal.returns
returns c =
    let some : 0 < length c.args.turns.now = grind arith in
    let text : c.append-2.new.self.text ≡ c.args.out.now.text ++ codes "schedule" ++ runs_text c.args.turns.now ++ codes "\n" = search rules in
    text ∙ schedule_is c.args.out.now.text c.args.turns.now some
