use Rattle.std.proofs.Common.{sym}
use Rattle.journal_text.specs.AnswerReading.{an_item}
use Rattle.journal_text.proofs.Lists.{all_stop, all_more, all_end, all_start}
use Rattle.journal_text.proofs.parsing.answers.items.Goals as goal

pub loop-field-init : goal.loop-field-init
loop-field-init c = all_start _ _ c.new-items.ensures

pub returns-in_default-item : goal.returns-in_default-item
returns-in_default-item c = all_stop an_item c.loop-field.items c.loop-field.fields c.next.new.self c.in-Some.field.now _ c.in-Some.ensures (sym c.in_default-item.ensures) c.loop-field.invariant

pub loop-field-preserved : goal.loop-field-preserved
loop-field-preserved c =
    all_more an_item c.loop-field.items c.push.new.self c.in-Some-item.one c.loop-field.fields c.next.new.self c.in-Some.field.now _ c.in-Some.ensures (sym c.in-Some-item.ensures) c.in_ok-push.ensures.ok c.loop-field.invariant

pub returns : goal.returns
returns c = all_end an_item c.loop-field.items c.loop-field.fields _ c.in_default.ensures.0 c.loop-field.invariant
