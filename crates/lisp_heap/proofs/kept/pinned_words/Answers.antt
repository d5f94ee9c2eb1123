-- One pin more.
use Rattle.std.proofs.Common.{◌≡◌, ◌∙◌, ap, arith, get_or, take_all}
use Rattle.std.proofs.lemmas.List.Sums.{sum_by_more}
use Rattle.std.specs.List.{sum_by}
use Rattle.heap_terms.specs.declared.events.PinAt.{PinAt}
use Rattle.lisp_heap.proofs.kept.pinned_words.Goals as goal

pub size_at-requires : goal.size_at-requires
size_at-requires c = c.requires.sized c.loop-q.q-index (record { name = 0; index = 0 }) c.loop-q-test.true

pub loop-q-preserved : goal.loop-q-preserved
loop-q-preserved c =
    let d : PinAt = record { name = 0; index = 0 } in
    let i = c.loop-q.q-index in
    let l = c.loop-q-test.true in
    record {
      sum = λ f sized.
          (let m = get_or c.args.pins.now i d in
          let one : c.size_at.result ≡ f m = c.size_at.ensures.size (f m) (sized i d l) in
          let before = c.loop-q.invariant.sum f sized in
          let more = sum_by_more f c.args.pins.now i d l in
          omega (arith, one, before, more));
      most = omega (arith, c.loop-q.invariant.most, c.size_at.ensures.most);
    }

pub returns-clause-sum : goal.returns-clause-sum
returns-clause-sum c f sized = c.loop-q.invariant.sum f sized ∙ ap (sum_by f) (take_all c.loop-q.q-index c.args.pins.now c.loop-q-test.false)
