-- The pass can be made, and what it leaves stands.
use Rattle.std.proofs.Common.{◌+◌, length, subst, arith}
use Rattle.std.proofs.lemmas.Option.{same_Some}
use Rattle.generation_policy.specs.Numbers.{IsPossible}
use Rattle.heap_terms.specs.Collections.{after_pass_of}
use Rattle.lisp_heap.proofs.FinalizersKept.{registered_few}
use Rattle.lisp_heap.proofs.NextPass.{can_count, can_make, is_pass_of, measurable, possible, stepped}
use Rattle.lisp_heap.proofs.all_passes.make_next.Goals as goal

pub make_counted_pass-made-requires : goal.make_counted_pass-made-requires
make_counted_pass-made-requires g c =
    let n = length c.args.passes.now.items in (
      can_make g.h c.args.last n c.args.pass c.args.space.now c.args.pages.now c.args.labels.now c.args.scratch.now.roots.exact.items c.args.scratch.now.roots.ambiguous.items c.args.stats.now
          c.requires.0 c.requires.1.0 c.args.scratch.now.room c.args.room c.requires.1.1.0 c.requires.1.1.1.0,
      (
        can_count g.h c.args.last n c.args.pass c.args.space.now c.args.pages.now c.args.labels.now c.args.scratch.now.roots.exact.items c.args.scratch.now.roots.ambiguous.items c.args.stats.now
            c.requires.0 c.requires.1.0,
        c.requires.1.1.1.1.1,
      ),
    )

pub plan_next-requires-clause-possible : goal.plan_next-requires-clause-possible
plan_next-requires-clause-possible g c x same =
    subst IsPossible (same_Some c.args.pass x same)
    (possible g.h c.args.last (length c.args.passes.now.items) c.args.pass c.args.space.now c.args.pages.now c.args.labels.now c.args.scratch.now.roots.exact.items
    c.args.scratch.now.roots.ambiguous.items c.args.stats.now c.requires.0 c.requires.1.0)

pub plan_next-requires-clause-measurable : goal.plan_next-requires-clause-measurable
plan_next-requires-clause-measurable g c x same low =
    let n = length c.args.passes.now.items in
    let made = c.make_counted_pass-made in
    let stand = stepped g.h c.args.last n c.args.pass c.args.space.now c.args.pages.now c.args.labels.now c.args.scratch.now.roots.exact.items c.args.scratch.now.roots.ambiguous.items
    c.args.stats.now c.requires.0 c.requires.1.0 made.result made.new.space made.new.pages made.new.labels made.new.scratch.roots.exact.items made.new.scratch.roots.ambiguous.items
    made.new.stats made.ensures.made made.ensures.numbers in
    measurable (after_pass_of g.h.heap c.args.last n made.result) made.new.stats (n + 1) (x.generation + 1) stand.counted stand.numbers (omega (arith, c.requires.1.0.low)) (omega (arith, low))

pub returns-clause-stepped : goal.returns-clause-stepped
returns-clause-stepped g c =
    let n = length c.args.passes.now.items in
    let made = c.make_counted_pass-made in
    let stand = stepped g.h c.args.last n c.args.pass c.args.space.now c.args.pages.now c.args.labels.now c.args.scratch.now.roots.exact.items c.args.scratch.now.roots.ambiguous.items
    c.args.stats.now c.requires.0 c.requires.1.0 made.result made.new.space made.new.pages made.new.labels made.new.scratch.roots.exact.items made.new.scratch.roots.ambiguous.items
    made.new.stats made.ensures.made made.ensures.numbers in (
      made.result,
      c.push_reserved.ensures.items,
      record {
        is_pass = is_pass_of g.h c.args.last n c.args.pass c.args.space.now c.args.pages.now c.args.labels.now c.args.scratch.now.roots.exact.items c.args.scratch.now.roots.ambiguous.items
            c.args.stats.now c.requires.0 c.requires.1.0 made.result made.new.space made.new.pages made.new.labels made.new.scratch.roots.exact.items made.new.scratch.roots.ambiguous.items
            made.new.stats made.ensures.made made.ensures.numbers;
        stand = stand;
        plan_is = c.plan_next.ensures.planned (after_pass_of g.h.heap c.args.last n made.result) stand.counted;
      },
      record { registered = made.ensures.finalizers.registered; queue = made.ensures.finalizers.queue },
    )

pub returns-clause-fewer : goal.returns-clause-fewer
returns-clause-fewer g c =
    registered_few g.h.heap c.make_counted_pass-made.result c.args.finalizers.now c.make_counted_pass-made.new.finalizers c.requires.1.1.1.1.1.stand c.make_counted_pass-made.ensures.finalizers
