-- What the pass kept is counted off its record.
use Rattle.std.proofs.Common.{ap}
use Rattle.generation_policy.specs.declared.stats.GenStats.{GenStats}
use Rattle.heap_terms.specs.Policy.{target_of}
use Rattle.lisp_heap.specs.Kept.{KeptLie}
use Rattle.lisp_heap.proofs.CountedThere.{accounted_still, stand_then}
use Rattle.lisp_heap.proofs.KeptThere.{kept_lie}
use Rattle.lisp_heap.proofs.one_pass.make_counted_pass.Goals as goal

pub kept_words-kept-requires : goal.kept_words-kept-requires
kept_words-kept-requires g c =
    let made = c.make_pass-made.ensures.made in (
      g.h.heap,
      kept_lie g.h.heap c.args.pass.generation (target_of c.args.pass.generation c.args.pass.raise) c.make_pass-made.result c.requires.0.can.stand.sound made.is_pass
          c.make_pass-made.new.space made.stand.sound made.stand.words_stand made.moved c.requires.1.0.few,
    )

pub returns-clause-numbers : goal.returns-clause-numbers
returns-clause-numbers g c =
    let a = g.h.heap in
    let pass = c.args.pass in
    let made = c.make_pass-made.ensures.made in
    let here : KeptLie g.h.heap c.make_pass-made.new.space c.make_pass-made.result =
    kept_lie g.h.heap c.args.pass.generation (target_of c.args.pass.generation c.args.pass.raise) c.make_pass-made.result c.requires.0.can.stand.sound made.is_pass
    c.make_pass-made.new.space made.stand.sound made.stand.words_stand made.moved c.requires.1.0.few in
    let before = c.account_before.ensures.stand a c.requires.1.0.stand in
    let mid = accounted_still a pass c.account_before.new.stats c.count_kept.new.stats c.kept_words-kept.result before c.count_kept.ensures in
    stand_then a c.make_pass-made.result pass c.args.stats.now c.account_before.new.stats c.count_kept.new.stats c.account_after.new.stats c.kept_words-kept.result made.is_pass
    c.requires.1.0.stand (ap (λ (s : GenStats). s.allocated) c.account_before.ensures.numbers) c.count_kept.ensures (c.kept_words-kept.ensures.words a here)
    (ap (λ (s : GenStats). s.allocated) c.account_after.ensures.numbers) (c.account_after.ensures.stand a mid)
