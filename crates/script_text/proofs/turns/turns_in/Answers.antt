use Rattle.std.proofs.Common.{sym, ◌∙◌}
use Rattle.script_text.proofs.Stars.{no_star, cut_at, position_none}
use Rattle.script_text.proofs.turns.turns_in.Goals as goal

pub returns-in-None : goal.returns-in-None
returns-in-None c = c.one_turn.ensures ∙ sym (no_star c.args.threads c.args.field.now (position_none c.args.field.now c.in-None.ensures.value))

pub returns-in-Some : goal.returns-in-Some
returns-in-Some c = c.turns_in_a_row.ensures ∙ sym (cut_at c.args.threads c.args.field.now c.in-Some.star _ _ c.in-Some.ensures.value c.split_at.ensures.front c.split_at-in-Some.ensures.back)
