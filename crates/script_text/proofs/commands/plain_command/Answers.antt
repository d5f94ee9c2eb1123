use Rattle.std.proofs.Common.{◌≤◌, length, arith}
use Rattle.script_text.proofs.Plain.{says_command}
use Rattle.script_text.proofs.commands.plain_command.Goals as goal

pub returns : goal.returns
returns c =
    let long : 1 ≤ length c.in_ok-command.after.now = grind arith in
    says_command c.in_ok-name.name c.args.rest.now c.in_ok-name.fields.now c.in_ok-command.after.now c.in_ok-command.command c.in_ok-name.ensures.built c.in_ok-name.ensures.taken c.in_ok-command.ensures long c.if-after-ne10.false
