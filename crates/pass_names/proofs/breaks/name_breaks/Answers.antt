-- The notes tell the weak pointers that became broken, and these come out by name.
use Rattle.std.proofs.Common.{◌≡◌, [], length, map, sym, ◌∙◌, subst, List, ℕ}
use Rattle.std.proofs.lemmas.Bool.{eqb-true}
use Rattle.std.proofs.lemmas.List.{nil_from_length}
use Rattle.std.proofs.lemmas.List.Sorted.{IsNonDecreasingBy-from_sort, IsPermutation-refl}
use Rattle.std.specs.List.Sorted.{IsPermutation}
use Rattle.pass_names.specs.Labelled.{label_at}
use Rattle.pass_names.proofs.Ascending.{ascends-from}
use Rattle.pass_names.proofs.Broken.{broken_by_name, places_named}
use Rattle.pass_names.proofs.breaks.name_breaks.Goals as goal

pub returns-then-is_empty : goal.returns-then-is_empty
returns-then-is_empty c m h =
    let labels = c.args.labels.now in
    let notes = c.args.notes.now in
    let none : notes ≡ [] = nil_from_length notes (eqb-true (length notes) 0 (sym c.is_empty.ensures ∙ c.if-is_empty.true)) in
    let nowhere : IsPermutation (map (label_at labels) notes) [] = subst (λ (xs : List ℕ). IsPermutation (map (label_at labels) xs) []) (sym none) (IsPermutation-refl []) in
    c.new.ensures ∙ broken_by_name m labels h.met notes h.noted [] nowhere tt

pub list_names-requires-clause-labels : goal.list_names-requires-clause-labels
list_names-requires-clause-labels c = let m = c.requires.noted in places_named m.0 c.args.labels.now m.1.met c.args.notes.now m.1.noted

pub returns : goal.returns
returns c m h =
    let labels = c.args.labels.now in
    let notes = c.args.notes.now in
    let names = c.sort_unstable.new.self.items in
    let permuted : IsPermutation (map (label_at labels) notes) names = subst (λ (xs : List ℕ). IsPermutation xs names) c.list_names.ensures c.sort_unstable.ensures.permutation in
    c.from_vec.ensures ∙ broken_by_name m labels h.met notes h.noted names permuted
    (ascends-from (λ x. x) names (IsNonDecreasingBy-from_sort (λ x. x) names c.sort_unstable.ensures.sorted))
