-- One move more.
use Rattle.std.proofs.Common.{◌≡◌, ℕ, sym, ◌∙◌, ap, arith, get_or, None, take_all, subst}
use Rattle.std.proofs.lemmas.List.Sums.{sum_by_more}
use Rattle.std.specs.List.{sum_by}
use Rattle.heap_terms.specs.declared.events.Placing.{Placing}
use Rattle.lisp_heap.specs.Kept.{HasSizeAt, IsSizeAt}
use Rattle.lisp_heap.proofs.kept.moved_words.Goals as goal

pub size_at-requires : goal.size_at-requires
size_at-requires c = subst (HasSizeAt c.args.space.now) (sym c.unwrap_or.ensures) (c.requires.sized c.loop-m.m-index (record { name = 0; old = 0; new = None }) c.loop-m-test.true)

pub loop-m-preserved : goal.loop-m-preserved
loop-m-preserved c =
    let d : Placing = record { name = 0; old = 0; new = None } in
    let i = c.loop-m.m-index in
    let l = c.loop-m-test.true in
    record {
      sum = λ f sized.
          (let m = get_or c.args.moves.now i d in
          let one : c.size_at.result ≡ f m = c.size_at.ensures.size (f m) (subst (λ (index : ℕ). IsSizeAt c.args.space.now index (f m)) (sym c.unwrap_or.ensures) (sized i d l)) in
          let before = c.loop-m.invariant.sum f sized in
          let more = sum_by_more f c.args.moves.now i d l in
          omega (arith, one, before, more));
      most = omega (arith, c.loop-m.invariant.most, c.size_at.ensures.most);
    }

pub returns-clause-sum : goal.returns-clause-sum
returns-clause-sum c f sized = c.loop-m.invariant.sum f sized ∙ ap (sum_by f) (take_all c.loop-m.m-index c.args.moves.now c.loop-m-test.false)
