use Rattle.std.proofs.Common.{◌≡◌, ℕ, suc, zero, ◌+◌, ◌-◌, List, [], ◌∷◌, ◌++◌, length, get_or, set, ap, arith}
use Rattle.std.proofs.lemmas.Result.{on_ok_weaker}
use Rattle.heap_terms.specs.declared.commands.Command.{Command}
use Rattle.heap_terms.specs.ScriptReading.{onto_last}
use Rattle.script_text.proofs.reader.push_to_last.Goals as goal

onto_last-set : (ts : List (List Command)) (n : ℕ) (cs : List Command) (c : Command) → n + 1 ≡ length ts → cs ≡ get_or ts n cs → set ts n (cs ++ c ∷ []) ≡ onto_last ts c
onto_last-set [] n cs c e here = absurd (omega arith)
onto_last-set (t ∷ []) zero cs c e here = ap (λ (x : List Command). (x ++ c ∷ []) ∷ []) here
onto_last-set (t ∷ []) (suc n) cs c e here = absurd (omega arith)
onto_last-set (t ∷ u ∷ ts) zero cs c e here = absurd (omega arith)
onto_last-set (t ∷ u ∷ ts) (suc n) cs c e here = ap (λ (x : List (List Command)). t ∷ x) (onto_last-set (u ∷ ts) n cs c (omega arith) here)

pub returns-clause-ok : goal.returns-clause-ok
returns-clause-ok c =
    let ts = c.args.threads.now.items in
    let n : c.len-last.result - 1 + 1 ≡ length ts = omega arith in
    on_ok_weaker c.push.result (λ e. rw e (onto_last-set ts (c.len-last.result - 1) c.index_mut.result.now c.args.command n c.index_mut.ensures.value)) c.push.ensures.ok
