-- Objects as a region builds them, before anything refers to them and before they refer to anything. What a
-- new object holds is this project's own.
use Rattle.std.specs.Prelude.{◌≡◌, ℕ, ◌+◌, ◌-◌, ◌*◌, ◌/◌, ◌≤◌, zero, suc, [], replicate}
use Rattle.heap_terms.specs.declared.kinds.Kind.{Kind}
use Rattle.heap_terms.specs.declared.kinds.Kind.TheVariants as kinds
use Rattle.heap_terms.specs.declared.kinds.Weakness.{Weakness}
use Rattle.heap_terms.specs.declared.kinds.Weakness.TheVariants as weaknesses
use Rattle.heap_terms.specs.declared.limits.TheConstants.{MOST_ELEMENTS, MOST_PAIRS}
use Rattle.heap_terms.specs.Heap.{zero_value}
use Rattle.heap_terms.specs.Objects.{Contents, ConsOf, VectorOf, InstanceOf, ClosureOf, WordsOf, WeakTo, TableOf}

-- the weakness of a number from 0 to 4
abbrev pub weakness_of : ℕ → Weakness
weakness_of zero = weaknesses.Strong
weakness_of (suc zero) = weaknesses.Key
weakness_of (suc (suc zero)) = weaknesses.Value
weakness_of (suc (suc (suc zero))) = weaknesses.KeyAndValue
weakness_of (suc (suc (suc (suc n)))) = weaknesses.KeyOrValue

-- what an object of a kind with n words of payload and a seed holds: fixnums 0, or n times the seed as a raw
-- word, or no pair, where the seed is the number of the weakness
abbrev pub fresh_contents : Kind → ℕ → ℕ → Contents
fresh_contents kinds.Cons n seed = ConsOf zero_value zero_value
fresh_contents kinds.Vector n seed = VectorOf (replicate n zero_value)
fresh_contents kinds.Instance n seed = InstanceOf (replicate n zero_value)
fresh_contents kinds.Closure n seed = ClosureOf (replicate n zero_value)
fresh_contents kinds.Words n seed = WordsOf (replicate n seed)
fresh_contents kinds.Weak n seed = WeakTo zero_value
fresh_contents kinds.Table n seed = TableOf (weakness_of seed) ((n - 3) / 4) []

-- the numbers that belong to a kind: 2 words of payload and no seed for a cons, 1 for a weak pointer, 3 + 4B for
-- a table of B pairs with one of the five weaknesses, up to 65,535 for the others; a seed only where one is read
abbrev pub IsBuildable : Kind → ℕ → ℕ → Type 0
IsBuildable kinds.Cons n seed = (n ≡ 2) × (seed ≡ 0)
IsBuildable kinds.Vector n seed = (n ≤ MOST_ELEMENTS) × (seed ≡ 0)
IsBuildable kinds.Instance n seed = (n ≤ MOST_ELEMENTS) × (seed ≡ 0)
IsBuildable kinds.Closure n seed = (n ≤ MOST_ELEMENTS) × (seed ≡ 0)
IsBuildable kinds.Words n seed = n ≤ MOST_ELEMENTS
IsBuildable kinds.Weak n seed = (n ≡ 1) × (seed ≡ 0)
IsBuildable kinds.Table n seed = (b : ℕ) × (1 ≤ b) × (b ≤ MOST_PAIRS) × (n ≡ 3 + 4 * b) × (seed ≤ 4)
