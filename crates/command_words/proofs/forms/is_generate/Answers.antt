use Rattle.std.proofs.Common.{sym, arith, inl, inr}
use Rattle.std.specs.String.{string_bytes}
use Rattle.command_words.proofs.Shapes.{two_words, three_words, four_words, of_two, of_three, of_four, no_form}
use Rattle.command_words.proofs.forms.is_generate.Goals as goal

pub returns-then-is : goal.returns-then-is
returns-then-is c =
    rw (
      two_words string_bytes c.args.words.now _ _ c.in-len2.len_at_least c.in-len2.len_below c.name-item.is c.option-item.is,
      of_two (string_bytes c.name-item.result) (string_bytes c.option-item.result),
      ← c.if-is.ensures,
    ) c.is_joined.ensures

pub returns-else-is : goal.returns-else-is
returns-else-is c =
    rw (
      two_words string_bytes c.args.words.now _ _ c.in-len2.len_at_least c.in-len2.len_below c.name-item.is c.option-item.is,
      of_two (string_bytes c.name-item.result) (string_bytes c.option-item.result),
      ← c.if-is.ensures,
    ) c.if-is.false

pub returns-else-is_joined : goal.returns-else-is_joined
returns-else-is_joined c =
    rw (
      three_words string_bytes c.args.words.now _ _ _ c.in-len3.len_at_least c.in-len3.len_below c.name-item-then-words-lt4.is c.option-item-then-words-lt4.is c.last-item.is,
      of_three (string_bytes c.name-item-then-words-lt4.result) (string_bytes c.option-item-then-words-lt4.result) (string_bytes c.last-item.result),
      ← c.if-is-2.ensures,
      ← c.if-is_parted.ensures,
      ← c.if-is_joined.ensures,
    ) c.if-is_joined.false

pub returns-then-is_joined : goal.returns-then-is_joined
returns-then-is_joined c =
    rw (
      three_words string_bytes c.args.words.now _ _ _ c.in-len3.len_at_least c.in-len3.len_below c.name-item-then-words-lt4.is c.option-item-then-words-lt4.is c.last-item.is,
      of_three (string_bytes c.name-item-then-words-lt4.result) (string_bytes c.option-item-then-words-lt4.result) (string_bytes c.last-item.result),
      ← c.if-is-2.ensures,
      ← c.if-is_parted.ensures,
      ← c.if-is_joined.ensures,
    ) c.is-then-is_joined.ensures

pub returns-then-is_parted : goal.returns-then-is_parted
returns-then-is_parted c =
    rw (
      three_words string_bytes c.args.words.now _ _ _ c.in-len3.len_at_least c.in-len3.len_below c.name-item-then-words-lt4.is c.option-item-then-words-lt4.is c.last-item.is,
      of_three (string_bytes c.name-item-then-words-lt4.result) (string_bytes c.option-item-then-words-lt4.result) (string_bytes c.last-item.result),
      ← c.if-is-2.ensures,
      ← c.if-is_parted.ensures,
    ) c.if-is_parted.true

pub returns-else-is-2 : goal.returns-else-is-2
returns-else-is-2 c =
    rw (
      three_words string_bytes c.args.words.now _ _ _ c.in-len3.len_at_least c.in-len3.len_below c.name-item-then-words-lt4.is c.option-item-then-words-lt4.is c.last-item.is,
      of_three (string_bytes c.name-item-then-words-lt4.result) (string_bytes c.option-item-then-words-lt4.result) (string_bytes c.last-item.result),
      ← c.if-is-2.ensures,
    ) c.if-is-2.false

pub returns-else-is-3 : goal.returns-else-is-3
returns-else-is-3 c =
    rw (
      four_words string_bytes c.args.words.now _ _ _ _ c.in-len4.len_at_least c.in-len4.len_below c.name-item-then-words-lt5.is c.option-item-then-words-lt5.is c.seed-item.is c.last-item-then-words-lt5.is,
      of_four (string_bytes c.name-item-then-words-lt5.result) (string_bytes c.option-item-then-words-lt5.result) (string_bytes c.seed-item.result) (string_bytes c.last-item-then-words-lt5.result),
      ← c.if-is-3.ensures,
    ) c.if-is-3.false

pub returns-then-is_parted-2 : goal.returns-then-is_parted-2
returns-then-is_parted-2 c =
    rw (
      four_words string_bytes c.args.words.now _ _ _ _ c.in-len4.len_at_least c.in-len4.len_below c.name-item-then-words-lt5.is c.option-item-then-words-lt5.is c.seed-item.is c.last-item-then-words-lt5.is,
      of_four (string_bytes c.name-item-then-words-lt5.result) (string_bytes c.option-item-then-words-lt5.result) (string_bytes c.seed-item.result) (string_bytes c.last-item-then-words-lt5.result),
      ← c.if-is-3.ensures,
      ← c.if-is_parted-2.ensures,
    ) c.is-then-is_parted-2.ensures

pub returns-else-is_parted-2 : goal.returns-else-is_parted-2
returns-else-is_parted-2 c =
    rw (
      four_words string_bytes c.args.words.now _ _ _ _ c.in-len4.len_at_least c.in-len4.len_below c.name-item-then-words-lt5.is c.option-item-then-words-lt5.is c.seed-item.is c.last-item-then-words-lt5.is,
      of_four (string_bytes c.name-item-then-words-lt5.result) (string_bytes c.option-item-then-words-lt5.result) (string_bytes c.seed-item.result) (string_bytes c.last-item-then-words-lt5.result),
      ← c.if-is-3.ensures,
      ← c.if-is_parted-2.ensures,
    ) c.if-is_parted-2.false

pub returns-in_default : goal.returns-in_default
returns-in_default c = sym (no_form string_bytes c.args.words.now (inl c.in_default.len_below))

pub returns-in_default-2 : goal.returns-in_default-2
returns-in_default-2 c = sym (no_form string_bytes c.args.words.now (inr (omega arith)))
