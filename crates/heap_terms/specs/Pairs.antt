-- The pairs of a table: a list in which each key stands at most once, in the order in which the keys were added.
-- That keys are compared by identity is as in SBCL's EQ tables; here identity is equality of values. Nothing is left
-- free.
use Rattle.std.specs.Prelude.{List, [], ◌∷◌, Option, Some, None, Bool, true, false, not, nat_eq, if◌then◌else◌, filter}
use Rattle.std.specs.Ordering.{int_eq}
use Rattle.std.specs.List.{list_any}
use Rattle.heap_terms.specs.declared.cells.Value.{Value}
use Rattle.heap_terms.specs.declared.cells.Value.TheVariants as values

-- whether two values are the same
abbrev pub same_value : Value → Value → Bool
same_value (values.Fix n) (values.Fix m) = int_eq n m
same_value (values.Fix n) values.Nil = false
same_value (values.Fix n) values.Unbound = false
same_value (values.Fix n) (values.Ref y) = false
same_value values.Nil (values.Fix m) = false
same_value values.Nil values.Nil = true
same_value values.Nil values.Unbound = false
same_value values.Nil (values.Ref y) = false
same_value values.Unbound (values.Fix m) = false
same_value values.Unbound values.Nil = false
same_value values.Unbound values.Unbound = true
same_value values.Unbound (values.Ref y) = false
same_value (values.Ref x) (values.Fix m) = false
same_value (values.Ref x) values.Nil = false
same_value (values.Ref x) values.Unbound = false
same_value (values.Ref x) (values.Ref y) = nat_eq x y

-- a pair has this key
abbrev pub is_pair_of : Value → Value × Value → Bool
is_pair_of k pair = same_value pair.0 k

-- whether a key is there
abbrev pub has_key : List (Value × Value) → Value → Bool
has_key pairs k = list_any (is_pair_of k) pairs

-- the value of a key
abbrev pub value_at : List (Value × Value) → Value → Option Value
value_at [] k = None
value_at (pair ∷ rest) k = if is_pair_of k pair then Some pair.1 else value_at rest k

-- the pairs with a key that has this value: its pair is replaced in its place, or added last
abbrev pub with_pair : List (Value × Value) → Value → Value → List (Value × Value)
with_pair [] k v = (k, v) ∷ []
with_pair (pair ∷ rest) k v = if is_pair_of k pair then (k, v) ∷ rest else pair ∷ with_pair rest k v

-- the pairs but that of a key
abbrev pub without_key : List (Value × Value) → Value → List (Value × Value)
without_key pairs k = filter (λ pair. not (is_pair_of k pair)) pairs
