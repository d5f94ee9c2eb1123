use Rattle.std.proofs.Common.{◌≡◌, ◌++◌, length, rules, arith}
use Rattle.std.specs.Prelude.{slice_index}
use Rattle.script_text.specs.Runs.{run_pieces_text}
use Rattle.script_text.proofs.Printed.{run_more, all_printed}
use Rattle.script_text.proofs.printing.push_runs.Goals as goal

pub loop-left-preserved : goal.loop-left-preserved
loop-left-preserved c =
    let text : c.push_run.new.out.text ≡ c.loop-left.out.text ++ run_pieces_text (slice_index c.loop-left.left.now 0) c.len_of_run-count.result = search rules in
    run_more c.loop-left.out.text c.args.out.now.text c.push_run.new.out.text c.loop-left.left.now c.split_at.result.1.now c.args.turns.now c.len_of_run-count.result
    c.len_of_run-count.ensures c.split_at.ensures.back text c.loop-left.invariant

pub returns : goal.returns
returns c =
    let none : length c.loop-left.left.now ≡ 0 = grind arith in
    all_printed c.loop-left.out.text c.args.out.now.text c.loop-left.left.now c.args.turns.now none c.loop-left.invariant
