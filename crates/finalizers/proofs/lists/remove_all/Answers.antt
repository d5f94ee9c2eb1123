-- What is kept is the filter, and what is not kept is counted.
use Rattle.std.proofs.Common.{not, length, refl, rules, ap, arith}
use Rattle.std.proofs.lemmas.Fn.{filter_same}
use Rattle.std.proofs.lemmas.List.Sums.{length-filter}
use Rattle.std.proofs.lemmas.List.Filters.{length-filter_both}
use Rattle.finalizers.specs.declared.lists.Registration.{Registration}
use Rattle.finalizers.specs.Lists.{is_of}
use Rattle.finalizers.proofs.lists.remove_all.Goals as goal

pub returns-clause-items : goal.returns-clause-items
returns-clause-items c = filter_same _ _ _ (λ x b f' k. search rules) _ _ c.retain.ensures.filtered

pub returns-clause-count : goal.returns-clause-count
returns-clause-count c =
    let both = length-filter_both (is_of c.args.object) (λ (r : Registration). not (is_of c.args.object r)) (λ r. refl) c.args.registered.now.items in
    let counted = length-filter (is_of c.args.object) c.args.registered.now.items in
    let kept = ap length (filter_same _ (λ (r : Registration). not (is_of c.args.object r)) _ (λ x b f' k. search rules) _ _ c.retain.ensures.filtered) in
    omega arith
