use Rattle.std.proofs.Common.{◌≡◌, List, refl, sym, ◌∙◌, rules, tests}
use Rattle.std.specs.Prelude.{find, option_map}
use Rattle.std.proofs.lemmas.Iterator.Consumers.{YieldsList-from_first}
use Rattle.std.proofs.lemmas.Iterator.Search.{find_from_yields_List}
use Rattle.object_walk.specs.declared.found.Found.{Found}
use Rattle.object_walk.proofs.Searched.{from_index, same_option, search_meets, search_finds, kept, kept_same, none_kept}
use Rattle.object_walk.proofs.walk.start_at.Goals as goal

-- what `find` answered
err_searched : (c : goal.After-from_residual) → c.find.result ≡ find (from_index c.args.index) c.new.result
err_searched c =
    let left : List Found = c.new.result in
    let is : option_map (λ (f : Found). f) c.find.result ≡ find (from_index c.args.index) left =
    find_from_yields_List (from_index c.args.index) _ _ c.find.result c.find.ensures.ran (YieldsList-from_first (λ (f : Found). f) (λ (fs : List Found). fs) left refl) (λ x b q k. search (rules, tests)) in
    sym (same_option c.find.result) ∙ is

ok_searched : (c : goal.After-then_some) → c.find.result ≡ find (from_index c.args.index) c.new.result
ok_searched c =
    let left : List Found = c.new.result in
    let is : option_map (λ (f : Found). f) c.find.result ≡ find (from_index c.args.index) left =
    find_from_yields_List (from_index c.args.index) _ _ c.find.result c.find.ensures.ran (YieldsList-from_first (λ (f : Found). f) (λ (fs : List Found). fs) left refl) (λ x b q k. search (rules, tests)) in
    sym (same_option c.find.result) ∙ is

pub returns-in_err-found-clause-only : goal.returns-in_err-found-clause-only
returns-in_err-found-clause-only c start here h =
    let met = search_meets c.args.space.now c.args.pages.now c.args.index c.new.result c.find.result start c.new.ensures (err_searched c) here h in
    c.from_residual.ensures ∙ sym c.in_err-found.was ∙ met

pub returns-clause-only : goal.returns-clause-only
returns-clause-only c start here h =
    let met = search_meets c.args.space.now c.args.pages.now c.args.index c.new.result c.find.result start c.new.ensures (ok_searched c) here h in
    c.then_some.ensures ∙ kept_same c.args.index c.in_ok-found.found start (sym (c.in_ok-found.was) ∙ met) here

pub returns-clause-found : goal.returns-clause-found
returns-clause-found c = kept c.args.space.now c.args.pages.now c.args.index c.in_ok-found.found c.then_some.result c.then_some.ensures
    (search_finds c.args.space.now c.args.pages.now c.args.index c.new.result c.find.result c.in_ok-found.found c.new.ensures (ok_searched c) c.requires.laid (c.in_ok-found.was))

pub returns-clause-none : goal.returns-clause-none
returns-clause-none c none start here h = none_kept c.then_some.result start none (returns-clause-only c start here h)

pub returns-in_err-found-clause-none : goal.returns-in_err-found-clause-none
returns-in_err-found-clause-none c none start here h = none_kept c.from_residual.result start none (returns-in_err-found-clause-only c start here h)
