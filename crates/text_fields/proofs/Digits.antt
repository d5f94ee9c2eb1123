-- Hexadecimal digits, written from the last to the first.
use Rattle.std.proofs.Common.{◌≡◌, ℕ, ◌+◌, ◌/◌, ◌%◌, ◌<◌, List, ◌∷◌, [], ◌++◌, length, drop, set, refl, append_assoc, add-one}
use Rattle.std.proofs.lemmas.Grind.{drop-set_at}
use Rattle.heap_terms.specs.Text.{hex_digit, hex_digits}

-- the last digit goes to the front of what stands behind
pub last_digit : (j k w : ℕ) (rest : List ℕ) → k ≡ j + 1 → hex_digits k w ++ rest ≡ hex_digits j (w / 16) ++ hex_digit (w % 16) ∷ rest
unfolding hex_digits
last_digit j k w rest e = rw e (rw add-one (append_assoc (hex_digits j (w / 16)) (hex_digit (w % 16) ∷ []) rest))

-- no digit is left
pub no_digit : (k w : ℕ) (digits : List ℕ) → k ≡ 0 → hex_digits k w ++ drop k digits ≡ digits
unfolding hex_digits
no_digit k w digits e = rw e refl

-- what stands from a place on after a write to it
pub first_place : (xs : List ℕ) (i k x y : ℕ) → k ≡ i + 1 → i < length xs → x ≡ y → drop i (set xs i x) ≡ y ∷ drop k xs
first_place xs i k x y e within same = rw e (rw same (drop-set_at xs i i y refl within))
