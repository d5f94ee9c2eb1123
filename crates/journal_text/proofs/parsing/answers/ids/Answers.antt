use Rattle.std.proofs.Common.{sym}
use Rattle.journal_text.specs.LineReading.{a_number_32}
use Rattle.journal_text.proofs.Lists.{all_stop, all_more, all_end, all_start}
use Rattle.journal_text.proofs.parsing.answers.ids.Goals as goal

pub loop-field-init : goal.loop-field-init
loop-field-init c = all_start _ _ c.new-ids.ensures

pub returns-in_default-number_32 : goal.returns-in_default-number_32
returns-in_default-number_32 c = all_stop a_number_32 c.loop-field.ids c.loop-field.fields c.next.new.self c.in-Some.field.now _ c.in-Some.ensures (sym c.in_default-number_32.ensures.value) c.loop-field.invariant

pub loop-field-preserved : goal.loop-field-preserved
loop-field-preserved c =
    all_more a_number_32 c.loop-field.ids c.push.new.self c.in-Some-number_32.id c.loop-field.fields c.next.new.self c.in-Some.field.now _ c.in-Some.ensures (sym c.in-Some-number_32.ensures.value) c.in_ok-push.ensures.ok c.loop-field.invariant

pub returns : goal.returns
returns c = all_end a_number_32 c.loop-field.ids c.loop-field.fields _ c.in_default.ensures.0 c.loop-field.invariant
