use Rattle.std.proofs.Common.{◌+◌, ◌++◌, ◌∷◌, [], map, ap, sym, ◌∙◌, add-one, arith}
use Rattle.std.proofs.lemmas.List.{map-append}
use Rattle.stop_words.specs.Owners.{numbers_from}
use Rattle.stop_words.proofs.Handing.{numbers_snoc}
use Rattle.stop_words.proofs.tests.chips.Goals as goal

pub loop-thread-preserved : goal.loop-thread-preserved
loop-thread-preserved c =
    let i = c.loop-thread.invariant in
    let k = c.loop-thread.thread in
    (ap (map (λ chip. chip.thread)) c.in_ok-push.ensures.items ∙ map-append (λ chip. chip.thread) c.loop-thread.chips.items _ ∙ ap (λ l. l ++ k ∷ []) i.0 ∙ numbers_snoc 0 k k (omega arith) ∙ ap (numbers_from 0) (sym (add-one k)), c.in_ok-push.ensures.len ∙ ap (λ n. n + 1) i.1)
