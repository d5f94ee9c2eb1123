-- Where the generation has no object the state at the start is the one at the end.
use Rattle.std.proofs.Common.{◌≡◌, ◌≤◌, length, refl, sym, ◌∙◌, arith}
use Rattle.std.specs.Prelude.{count_by}
use Rattle.heap_terms.specs.declared.limits.TheConstants.{MOST_PAGES}
use Rattle.heap_terms.specs.Generations.{is_of, names}
use Rattle.collect_pass.proofs.Nothing.{nothing-noted, nothing-swept, nothing-traced}
use Rattle.collect_pass.proofs.tracing.trace.Goals as goal

pub returns-then-count-eq0 : goal.returns-then-count-eq0
returns-then-count-eq0 g c =
    let most : length c.args.pages.now ≤ MOST_PAGES = omega arith in
    let zero : c.args.count ≡ 0 = omega arith in
    let none : count_by (is_of g.h.heap c.args.pass.generation) (names g.h.heap) ≡ 0 = sym c.requires.1.1 ∙ zero in
    record {
      traced = nothing-traced g.h _ _ _ _ _ _ _ _ c.requires.0 most none;
      notes = nothing-noted g.h _ _ _ _ _ _ _ _ c.requires.0 most none c.requires.1.0.none;
      finalizers = nothing-swept g.h _ _ _ _ _ _ _ _ c.requires.0 most none c.args.finalizers.now c.requires.1.0;
      most = refl;
    }
