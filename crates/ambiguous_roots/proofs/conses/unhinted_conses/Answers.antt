-- The page's flags and its words tell.
use Rattle.std.proofs.Common.{◌≡◌, ◌/◌, List, All, false}
use Rattle.heap_terms.specs.LaidOut.{AreObjectsOn, ObjectStart}
use Rattle.ambiguous_roots.specs.Hinted.{hint_of}
use Rattle.ambiguous_roots.proofs.ConsPages.{some-all, starts-unhinted}
use Rattle.ambiguous_roots.proofs.conses.unhinted_conses.Goals as goal

pub returns-clause-unhinted : goal.returns-clause-unhinted
returns-clause-unhinted c =
    some-all (λ n. (starts : List ObjectStart) → AreObjectsOn c.args.space.now c.args.pages.now c.args.page starts → All (λ (s : ObjectStart). hint_of c.args.hints.now (s.index / 2) ≡ false) starts)
    c.conses_in.result (λ n. starts-unhinted c.args.space.now c.args.pages.now c.args.page c.args.hints.now (c.is_any_on.ensures c.if-is_any_on.false))
