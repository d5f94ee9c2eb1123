-- The threads that the holder of the turn goes over, and changes at one place.
use Rattle.std.proofs.Common.{◌≡◌, ◌≢◌, ℕ, ◌<◌, ◌≤◌, inl, inr, sym, subst, arith, true, false}
use Rattle.std.proofs.lemmas.Bool.{cases_eq, cases_lt, lt-ltb, le-ltb, eq-eqb, ne_eqb}
use Rattle.std.specs.Prelude.{nat_lt}
use Rattle.heap_terms.specs.Phases.{other_from}

-- the lowest thread from u on that is not t
pub record IsOther (t u v : ℕ) : Type 0 where
  pub from : u ≤ v
  pub other : v ≢ t
  pub between : (x : ℕ) → u ≤ x → x < v → x ≡ t

pub other_is : (t u : ℕ) → IsOther t u (other_from t u)
other_is t u = elim (cases_eq u t) [
  | inl same ↦ rw (eq-eqb u t same) (record { from = omega arith; other = λ e. omega arith; between = λ x low high. omega arith })
  | inr apart ↦ rw (ne_eqb u t apart) (record { from = omega arith; other = apart; between = λ x low high. absurd (omega arith) })
]

-- there is another one from u on among n, or each that is left is t itself
pub data OtherCase (n t u : ℕ) : Type 0 where
  There : nat_lt (other_from t u) n ≡ true → other_from t u < n → OtherCase n t u
  Last : nat_lt (other_from t u) n ≡ false → ((x : ℕ) → u ≤ x → x < n → x ≡ t) → OtherCase n t u

pub other_case : (n t u : ℕ) → OtherCase n t u
other_case n t u = elim (cases_lt (other_from t u) n) [
  | inl below ↦ There (lt-ltb (other_from t u) n below) below
  | inr past ↦ Last (le-ltb (other_from t u) n past) (λ x low high. (other_is t u).between x low (omega arith))
]

-- a function that has changed at one place
pub record IsChanged {X : Type 0} (t : ℕ) (y : X) (f g : ℕ → X) : Type 0 where
  pub own : g t ≡ y
  pub others : (u : ℕ) → u ≢ t → g u ≡ f u

-- a fact of each place after a change
pub by_change : {X : Type 0} (P : ℕ → X → Type 0) (t : ℕ) (y : X) (f g : ℕ → X) → IsChanged t y f g → P t y → (u : ℕ) → (u ≢ t → P u (f u)) → P u (g u)
by_change {X} P t y f g c here u there = elim (cases_eq u t) [
  | inl same ↦ subst (λ (v : ℕ). P v (g v)) (sym same) (subst (P t) (sym c.own) here)
  | inr other ↦ subst (P u) (sym (c.others u other)) (there other)
]
