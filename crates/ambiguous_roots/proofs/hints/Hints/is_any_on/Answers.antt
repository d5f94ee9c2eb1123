-- The flags of a page are a part of all.
use Rattle.std.proofs.Common.{◌∙◌}
use Rattle.ambiguous_roots.proofs.ConsPages.{flags-of-page}
use Rattle.ambiguous_roots.proofs.hints.Hints.is_any_on.Goals as goal

pub returns : goal.returns
returns c = λ none. flags-of-page c.args.self.now c.deref.result.now c.args.page (c.deref.ensures.value ∙ c.self.view_is) c.requires (c.are_any_set.ensures none)
