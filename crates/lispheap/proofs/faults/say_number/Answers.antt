use Rattle.std.proofs.Common.{◌≡◌, ◌∙◌, sym}
use Rattle.std.specs.Fmt.{decimal}
use Rattle.lispheap.proofs.Saying.{first_stopped, second_stopped, both_said, at_err, err_from, ok_from}
use Rattle.lispheap.proofs.faults.say_number.Goals as goal

pub returns-in_err-put_text-clause-stopped : goal.returns-in_err-put_text-clause-stopped
returns-in_err-put_text-clause-stopped g c =
    let digits : decimal c.args.n ≡ c.as_bytes.result.now = sym (c.as_bytes.ensures.value ∙ c.format.ensures.text) in
    rw digits (at_err c.from_residual.result (first_stopped _ _ _ c.in_err-put_text.ensures.stopped))

pub returns-clause-said : goal.returns-clause-said
returns-clause-said g c =
    let digits : decimal c.args.n ≡ c.as_bytes.result.now = sym (c.as_bytes.ensures.value ∙ c.format.ensures.text) in
    rw digits (ok_from c.say_why.result (λ later. both_said _ _ _ _ _ c.in_ok-put_text.ensures.said later) c.say_why.ensures.said)

pub returns-clause-stopped : goal.returns-clause-stopped
returns-clause-stopped g c =
    let digits : decimal c.args.n ≡ c.as_bytes.result.now = sym (c.as_bytes.ensures.value ∙ c.format.ensures.text) in
    rw digits (err_from c.say_why.result (λ later. second_stopped _ _ _ _ _ c.put_text.ensures.counted c.say_why.ensures.counted c.in_ok-put_text.ensures.said later) c.say_why.ensures.stopped)
