use Rattle.std.proofs.Common.{◌++◌, replicate}
use Rattle.script_text.proofs.Turning.{taken_more}
use Rattle.script_text.proofs.schedules.check_turns.Goals as goal

pub loop-field-preserved : goal.loop-field-preserved
loop-field-preserved c =
    let t = c.in_ok-turns_in.field-0 in
    let before = c.loop-field.invariant.0 in
    (before ++ replicate t.count t.thread, taken_more before c.args.threads c.loop-field.left c.in-Some.field.now c.next_field.new.self t _ c.loop-field.invariant.1 c.in-Some.ensures c.in_ok-turns_in.ensures)
