-- The stacks so far are empty, and there is room for the rest.
use Rattle.std.proofs.Common.{◌≡◌, ◌++◌, ◌∷◌, ℕ, List, [], replicate, arith, ap, ◌∙◌}
use Rattle.std.proofs.lemmas.List.{replicate_more}
use Rattle.lisp_heap.proofs.pins.Pins.none.Goals as goal

pub loop-t-init : goal.loop-t-init
loop-t-init c = record {
  empty = c.in_ok-stacks.ensures.items;
  len = c.in_ok-stacks.ensures.len;
  room = c.in_ok-stacks.ensures.capacity;
}

pub push_reserved-requires : goal.push_reserved-requires
push_reserved-requires c = omega arith

pub loop-t-preserved : goal.loop-t-preserved
loop-t-preserved c = record {
  empty = c.push_reserved.ensures.items ∙ ap (λ (xs : List (List ℕ)). xs ++ c.empty.result ∷ []) c.loop-t.invariant.empty
      ∙ ap (λ (x : List ℕ). replicate c.loop-t._t [] ++ x ∷ []) c.empty.ensures ∙ replicate_more {X = List ℕ} c.loop-t._t [];
  len = omega arith;
  room = omega arith;
}

pub returns : goal.returns
returns c =
    let all : c.loop-t._t ≡ c.args.threads = omega arith in
    c.loop-t.invariant.empty ∙ ap (λ (n : ℕ). replicate {A = List ℕ} n []) all
