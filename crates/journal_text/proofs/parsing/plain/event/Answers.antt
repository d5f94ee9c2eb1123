use Rattle.std.proofs.Common.{◌≡◌, ◌≤◌, ◌++◌, ℕ, get_or, ap, sym, ◌∙◌, arith}
use Rattle.std.specs.Prelude.{decimal}
use Rattle.heap_terms.specs.Text.{event_text}
use Rattle.journal_text.specs.Plain.{Acts}
use Rattle.journal_text.proofs.PlainFields.{one_digit}
use Rattle.journal_text.proofs.PlainLines.{some_weaker}
use Rattle.journal_text.proofs.parsing.plain.event.Goals as goal

pub returns-in-99-clause-text : goal.returns-in-99-clause-text
returns-in-99-clause-text c =
    let bytes = c.args.bytes.now in
    let rest = c.split_at.result.1.now in
    let low : 48 ≤ get_or bytes 0 0 = omega arith in
    let high : get_or bytes 0 0 ≤ 57 = omega arith in
    let front : bytes ≡ decimal c.from-thread.result ++ rest = one_digit bytes rest (omega arith) low high c.split_at.ensures.back ∙ ap (λ (n : ℕ). decimal n ++ rest) (sym c.from-thread.ensures) in
    some_weaker (λ f. Acts c.from-thread.result rest f.0 f.1.now) (λ f. bytes ≡ event_text f.0 ++ f.1.now) (λ f a. front ∙ a.text) c.cons.result c.cons.ensures

pub returns-in-112-clause-text : goal.returns-in-112-clause-text
returns-in-112-clause-text c =
    let bytes = c.args.bytes.now in
    let rest = c.split_at.result.1.now in
    let low : 48 ≤ get_or bytes 0 0 = omega arith in
    let high : get_or bytes 0 0 ≤ 57 = omega arith in
    let front : bytes ≡ decimal c.from-thread.result ++ rest = one_digit bytes rest (omega arith) low high c.split_at.ensures.back ∙ ap (λ (n : ℕ). decimal n ++ rest) (sym c.from-thread.ensures) in
    some_weaker (λ f. Acts c.from-thread.result rest f.0 f.1.now) (λ f. bytes ≡ event_text f.0 ++ f.1.now) (λ f a. front ∙ a.text) c.put.result c.put.ensures

pub returns-in-103-clause-text : goal.returns-in-103-clause-text
returns-in-103-clause-text c =
    let bytes = c.args.bytes.now in
    let rest = c.split_at.result.1.now in
    let low : 48 ≤ get_or bytes 0 0 = omega arith in
    let high : get_or bytes 0 0 ≤ 57 = omega arith in
    let front : bytes ≡ decimal c.from-thread.result ++ rest = one_digit bytes rest (omega arith) low high c.split_at.ensures.back ∙ ap (λ (n : ℕ). decimal n ++ rest) (sym c.from-thread.ensures) in
    some_weaker (λ f. Acts c.from-thread.result rest f.0 f.1.now) (λ f. bytes ≡ event_text f.0 ++ f.1.now) (λ f a. front ∙ a.text) c.get.result c.get.ensures

pub returns-in-102-clause-text : goal.returns-in-102-clause-text
returns-in-102-clause-text c =
    let bytes = c.args.bytes.now in
    let rest = c.split_at.result.1.now in
    let low : 48 ≤ get_or bytes 0 0 = omega arith in
    let high : get_or bytes 0 0 ≤ 57 = omega arith in
    let front : bytes ≡ decimal c.from-thread.result ++ rest = one_digit bytes rest (omega arith) low high c.split_at.ensures.back ∙ ap (λ (n : ℕ). decimal n ++ rest) (sym c.from-thread.ensures) in
    some_weaker (λ f. Acts c.from-thread.result rest f.0 f.1.now) (λ f. bytes ≡ event_text f.0 ++ f.1.now) (λ f a. front ∙ a.text) c.fix.result c.fix.ensures

pub returns-in-115-clause-text : goal.returns-in-115-clause-text
returns-in-115-clause-text c =
    let bytes = c.args.bytes.now in
    let rest = c.split_at.result.1.now in
    let low : 48 ≤ get_or bytes 0 0 = omega arith in
    let high : get_or bytes 0 0 ≤ 57 = omega arith in
    let front : bytes ≡ decimal c.from-thread.result ++ rest = one_digit bytes rest (omega arith) low high c.split_at.ensures.back ∙ ap (λ (n : ℕ). decimal n ++ rest) (sym c.from-thread.ensures) in
    some_weaker (λ f. Acts c.from-thread.result rest f.0 f.1.now) (λ f. bytes ≡ event_text f.0 ++ f.1.now) (λ f a. front ∙ a.text) c.show.result c.show.ensures
