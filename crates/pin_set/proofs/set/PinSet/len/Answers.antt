-- Equality of numbers is decided by `nat_eq`, so keys of which no two are equal by it are distinct.
use Rattle.std.proofs.Common.{◌≢◌, ℕ, AllPairs, subst}
use Rattle.std.proofs.lemmas.Bool.Decides.{Decides-eqb}
use Rattle.std.proofs.lemmas.Map.Made.{AllPairs-from_IsDistinct}
use Rattle.pin_set.specs.Starts.{Starts}
use Rattle.pin_set.proofs.set.PinSet.len.Goals as goal

pub returns-clause-once : goal.returns-clause-once
returns-clause-once c =
    subst (λ (v : Starts). AllPairs (λ (s t : ℕ). s ≢ t) v.listed) c.self.view_is
    (AllPairs-from_IsDistinct Decides-eqb c.self.inside.starts.keys c.self.invariant.once)
