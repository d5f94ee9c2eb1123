-- Lists of numbers, lists read by `get_elem?`, and a function changed at one number.
use Rattle.std.proofs.Common.{◌≡◌, ◌≢◌, ◌⊎◌, ◌<◌, ◌≤◌, ℕ, zero, suc, Bool, true, false, true≢false, not, eqb, List, [], ◌∷◌, length, refl, sym, ap, ◌∙◌, inl, inr, ⊎_elim, eq-eqb, ne_eqb, lt_of_not-le, arith}
use Rattle.std.specs.Prelude.{if◌then◌else◌}
use mathlib.Core.Option.{some, some-ne-none}
use mathlib.Core.Logic.{dite}
use native.Mathlib.Decide.{ℕ_discrete, dec_le}
use lib.ListN.{get_elem?}
use Rattle.stop_words.specs.declared.view.Place.{Place}
use Rattle.stop_words.specs.declared.view.Place.TheVariants.{Parked, Outside, Inside, Holding}
use Rattle.stop_words.specs.Places.{is_in, without, lists_at, is_home}

pub same_or_not : (a b : ℕ) → (a ≡ b) ⊎ (a ≢ b)
same_or_not a b = dite (ℕ_discrete a b) inl inr

pub if_same : {A : Type 0} (x y : ℕ) (a b : A) → x ≡ y → (if eqb x y then a else b) ≡ a
if_same x y a b e = ap (λ t. if t then a else b) (eq-eqb x y e)

pub if_other : {A : Type 0} (x y : ℕ) (a b : A) → x ≢ y → (if eqb x y then a else b) ≡ b
if_other x y a b ne = ap (λ t. if t then a else b) (ne_eqb x y ne)

module _ {A : Type 0} where
  pub below : (l : List A) (i : ℕ) (a : A) → get_elem? l i ≡ some a → i < length l
  below [] i a e = absurd (some-ne-none a (sym e))
  below (x ∷ xs) zero a e = omega arith
  below (x ∷ xs) (suc i) a e = let h = below xs i a e in omega arith

  -- a function, changed at one number
  unfoldable pub put : ℕ → A → (ℕ → A) → ℕ → A
  put i a f j = if eqb j i then a else f j

  pub put_here : (i : ℕ) (a : A) (f : ℕ → A) (j : ℕ) → j ≡ i → put i a f j ≡ a
  unfolding put
  put_here i a f j e = if_same j i a (f j) e

  pub put_else : (i : ℕ) (a : A) (f : ℕ → A) (j : ℕ) → j ≢ i → put i a f j ≡ f j
  unfolding put
  put_else i a f j ne = if_other j i a (f j) ne

pub in_here : (x u : ℕ) (us : List ℕ) → x ≡ u → is_in x (u ∷ us) ≡ true
in_here x u us e = if_same x u true (is_in x us) e

pub in_else : (x u : ℕ) (us : List ℕ) → x ≢ u → is_in x (u ∷ us) ≡ is_in x us
in_else x u us ne = if_other x u true (is_in x us) ne

without_cons : (u y : ℕ) (us : List ℕ) → (b : Bool) → eqb y u ≡ b → without u (y ∷ us) ≡ (if b then without u us else y ∷ without u us)
without_cons u y us true e = ap (λ t. if not t then y ∷ without u us else without u us) e
without_cons u y us false e = ap (λ t. if not t then y ∷ without u us else without u us) e

pub not_in_without : (u : ℕ) (us : List ℕ) → is_in u (without u us) ≡ false
not_in_without u [] = refl
not_in_without u (y ∷ us) =
    ⊎_elim
    (λ (e : y ≡ u). ap (is_in u) (without_cons u y us true (eq-eqb y u e)) ∙ not_in_without u us)
    (λ (ne : y ≢ u). ap (is_in u) (without_cons u y us false (ne_eqb y u ne)) ∙ in_else u y (without u us) (λ e. ne (sym e)) ∙ not_in_without u us)
    (same_or_not y u)

pub in_without : (x u : ℕ) (us : List ℕ) → x ≢ u → is_in x (without u us) ≡ is_in x us
in_without x u [] ne = refl
in_without x u (y ∷ us) ne =
    ⊎_elim
    (λ (e : y ≡ u). ap (is_in x) (without_cons u y us true (eq-eqb y u e)) ∙ in_without x u us ne ∙ sym (in_else x y us (λ h. ne (h ∙ e))))
    (λ (apart : y ≢ u). ap (is_in x) (without_cons u y us false (ne_eqb y u apart)) ∙ ap (λ b. if eqb x y then true else b) (in_without x u us ne))
    (same_or_not y u)

pub lists_at_else : (p : Place) (xs : List ℕ) → p ≢ Holding → lists_at p xs ≡ []
lists_at_else Holding xs ne = absurd (ne refl)
lists_at_else Parked xs ne = refl
lists_at_else Outside xs ne = refl
lists_at_else Inside xs ne = refl

pub not_home : (p : Place) (b : Bool) → p ≢ Parked → is_home p b ≡ false
not_home Parked b ne = absurd (ne refl)
not_home Outside b ne = refl
not_home Inside b ne = refl
not_home Holding b ne = refl

pub true_not_false : true ≡ false → ⊥
true_not_false e = true≢false e

pub off : false ≡ true → ⊥
off e = true≢false (sym e)

pub none_in : (k : ℕ) (xs : List ℕ) → ((u : ℕ) → is_in u xs ≡ true → ⊥) → is_in k xs ≡ false
none_in k xs never = cases (is_in k xs) refl
  where
    cases : (b : Bool) → is_in k xs ≡ b → is_in k xs ≡ false
    cases true e = absurd (never k e)
    cases false e = e

pub le_or_lt : (a b : ℕ) → (a ≤ b) ⊎ (b < a)
le_or_lt a b = dite (dec_le a b) inl (λ h. inr (lt_of_not-le h))
