-- A word that is no reference points to nothing.
use Rattle.std.proofs.Common.{◌*◌}
use Rattle.ambiguous_roots.proofs.Pointing.{not_both}
use Rattle.ambiguous_roots.proofs.hints.Hints.set_for.Goals as goal

pub returns-in_default-clause-set : goal.returns-in_default-clause-set
returns-in_default-clause-set c k tag tagged l = absurd (not_both c.untag.result (2 * k, tag) c.in_default.is (c.untag.ensures.only (2 * k) tag tagged))
