use Rattle.std.proofs.Common.{◌≡◌, ◌+◌, ◌<◌, length, drop, take_all, ap, sym, ◌∙◌, ◌∷◌, [], List, ℕ, arith, length-drop}
use Rattle.std.specs.List.{slice_split}
use Rattle.std.proofs.lemmas.Bool.{eqb-true, eq-eqb, false≢true}
use Rattle.journal_text.specs.Cursors.{is_space}
use Rattle.journal_text.proofs.Values.{next_byte}
use Rattle.journal_text.proofs.Splitting.{split_first, split_last}
use Rattle.journal_text.proofs.parsing.cursor.first_field.Goals as goal

pub returns-then-is_empty : goal.returns-then-is_empty
returns-then-is_empty c =
    let len = c.len_of_field-len.result in
    let bytes = c.args.bytes.now in
    let none : length c.split_at.result.1.now ≡ 0 = eqb-true _ 0 (sym c.if-is_empty.ensures) in
    let all : len ≡ length bytes = omega (arith, length-drop len bytes, ap length c.split_at.ensures.back, none) in
    split_last bytes len all c.len_of_field-len.ensures.before ∙ ap (λ (xs : List ℕ). xs ∷ []) (sym (c.split_at.ensures.front ∙ take_all len bytes (omega arith)))

pub returns : goal.returns
returns c =
    let len = c.len_of_field-len.result in
    let bytes = c.args.bytes.now in
    let some : length c.split_at.result.1.now ≡ 0 → ⊥ = λ z. false≢true (c.if-is_empty.ensures ∙ eq-eqb _ 0 z) in
    let within : len < length bytes = omega (arith, length-drop len bytes, ap length c.split_at.ensures.back, some) in
    split_first bytes len within c.len_of_field-len.ensures.before (c.len_of_field-len.ensures.found within)
    ∙ ap (λ (xs : List ℕ). xs ∷ slice_split is_space (drop (len + 1) bytes)) (sym c.split_at.ensures.front)
    ∙ ap (λ (xs : List ℕ). c.split_at.result.0.now ∷ slice_split is_space xs) (sym (c.split_at-2.ensures.back ∙ ap (drop 1) (c.split_at.ensures.back ∙ next_byte bytes len within)))
