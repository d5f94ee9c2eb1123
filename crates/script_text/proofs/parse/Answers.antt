use Rattle.std.proofs.Common.{◌≡◌, refl, [], length, sym, ap, ◌∙◌, arith}
use Rattle.std.specs.Str.Lines.{lines}
use Rattle.std.proofs.lemmas.Bool.{false≢true}
use Rattle.heap_terms.specs.ScriptReading.{read_script}
use Rattle.script_text.specs.Left.{lines_after}
use Rattle.script_text.proofs.Lines.{length-lines}
use Rattle.script_text.proofs.Validity.{read_valid}
use Rattle.script_text.proofs.Script.{read_next, read_all, refusal, lines_fewer}
use Rattle.script_text.proofs.parse.Goals as goal

pub loop-left-init : goal.loop-left-init
unfolding read_script
loop-left-init c = record { reads = rw (c.new-reader.ensures, c.new-left.ensures) refl; numbers = rw c.new-left.ensures (omega (arith, length-lines c.args.bytes.now)) }

pub returns-in-Err-clause-exact : goal.returns-in-Err-clause-exact
returns-in-Err-clause-exact c =
    rw c.at.ensures (refusal c.in-Err.fault c.loop-left.reader c.line.new.self c.loop-left.number c.loop-left.left (read_script c.args.bytes.now)
    (λ none. false≢true (c.loop-left-test.ensures.1 none)) c.in-Err.ensures.judged c.loop-left.invariant.reads)

pub loop-left-smaller : goal.loop-left-smaller
loop-left-smaller c =
    omega (arith, lines_fewer c.loop-left.left (λ none. false≢true (c.loop-left-test.ensures.1 none)), ap length c.next_line.ensures, ap length c.in_default.ensures.lines)

pub loop-left-preserved : goal.loop-left-preserved
loop-left-preserved c =
    let some : lines c.loop-left.left ≡ [] → ⊥ = λ none. false≢true (c.loop-left-test.ensures.1 none) in
    let rest : lines c.next_line.new.self ≡ lines_after c.loop-left.left = c.next_line.ensures ∙ c.in_default.ensures.lines in
    record {
      reads = rw rest (sym (read_next c.loop-left.reader c.line.new.self c.loop-left.number c.loop-left.left some c.in_default.ensures.judged) ∙ c.loop-left.invariant.reads);
      numbers = omega (arith, lines_fewer c.loop-left.left some, ap length rest, c.loop-left.invariant.numbers);
    }

pub returns-in-Some-clause-exact : goal.returns-in-Some-clause-exact
returns-in-Some-clause-exact c =
    sym c.loop-left.invariant.reads ∙ read_all c.loop-left.reader c.loop-left.number c.loop-left.left (c.loop-left-test.ensures.0 refl) ∙ c.in-Some.ensures c.loop-left.number

pub returns-in-Some-clause-valid : goal.returns-in-Some-clause-valid
returns-in-Some-clause-valid c =
    read_valid c.args.bytes.now c.in-Some.program (sym c.loop-left.invariant.reads ∙ read_all c.loop-left.reader c.loop-left.number c.loop-left.left (c.loop-left-test.ensures.0 refl) ∙ c.in-Some.ensures c.loop-left.number)

pub returns-in-None-clause-exact : goal.returns-in-None-clause-exact
returns-in-None-clause-exact c =
    sym c.loop-left.invariant.reads ∙ read_all c.loop-left.reader c.loop-left.number c.loop-left.left (c.loop-left-test.ensures.0 refl) ∙ c.in-None.ensures c.loop-left.number
