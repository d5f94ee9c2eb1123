-- One name more.
use Rattle.std.proofs.Common.{◌≡◌, ℕ, ◌∷◌, ◌++◌, [], List, get_or, map, take, sym, ◌∙◌, ap, arith}
use Rattle.std.proofs.lemmas.List.{get_or_default, map_more}
use Rattle.pass_names.specs.Labelled.{label_at}
use Rattle.pass_names.proofs.Reading.{has_label}
use Rattle.pass_names.proofs.breaks.list_names.Goals as goal

pub at-requires : goal.at-requires
at-requires c = has_label c.args.labels.now _ (c.requires.labels c.loop-index.index-index 0 c.loop-index-test.true)

pub loop-index-preserved : goal.loop-index-preserved
loop-index-preserved c =
    let n = c.loop-index.index-index in
    let labels = c.args.labels.now in
    let notes = c.args.notes.now in
    let there = has_label labels (get_or notes n 0) (c.requires.labels n 0 c.loop-index-test.true) in
    let name : c.at.result ≡ label_at labels (get_or notes n 0) = c.at.ensures ∙ get_or_default labels _ c.at.result 0 there in
    record {
      items = c.push_reserved.ensures.items
          ∙ ap (λ (xs : List ℕ). xs ++ c.at.result ∷ []) c.loop-index.invariant.items
          ∙ ap (λ (x : ℕ). map (label_at labels) (take n notes) ++ x ∷ []) name
          ∙ sym (map_more (label_at labels) notes n 0 c.loop-index-test.true);
      len = omega arith;
      room = omega arith;
    }
