-- What stands before a byte and what behind it.
use Rattle.std.proofs.Common.{◌≡◌, ℕ, zero, suc, ◌<◌, true, false, eqb, List, [], ◌∷◌, ◌++◌, length, get_or, take, drop, Some, None, refl, ap, ◌∙◌, arith, inl, inr}
use Rattle.std.proofs.lemmas.Bool.{ne_eqb, eq-eqb, eqb-true, cases_Bool}
use Rattle.std.proofs.lemmas.Option.{some_pair_parts}
use Rattle.journal_text.specs.AnswerReading.{cut_at}
use Rattle.journal_text.proofs.Binding.{map_some}

pub cut_none : (c : ℕ) (bytes : List ℕ) → ((k : ℕ) → k < length bytes → get_or bytes k 0 ≡ c → ⊥) → cut_at c bytes ≡ None
unfolding cut_at
cut_none c [] before = refl
cut_none c (b ∷ bytes) before =
    let no_c : eqb b c ≡ false = ne_eqb b c (before 0 (omega arith)) in
    let rest : cut_at c bytes ≡ None = cut_none c bytes (λ k lt e. before (suc k) (omega arith) e) in
    rw (no_c, rest) refl

pub cut_some : (c : ℕ) (bytes : List ℕ) (len : ℕ) → len < length bytes → ((k : ℕ) → k < len → get_or bytes k 0 ≡ c → ⊥) → get_or bytes len 0 ≡ c →
    cut_at c bytes ≡ Some (take len bytes, drop (suc len) bytes)
unfolding cut_at
cut_some c [] len within before here = absurd (omega arith)
cut_some c (b ∷ bytes) zero within before here = let e : eqb b c ≡ true = eq-eqb b c here in rw e refl
cut_some c (b ∷ bytes) (suc len) within before here =
    let no_c : eqb b c ≡ false = ne_eqb b c (before 0 (omega arith)) in
    let rest : cut_at c bytes ≡ Some (take len bytes, drop (suc len) bytes) = cut_some c bytes len (omega arith) (λ k lt e. before (suc k) (omega arith) e) here in
    rw (no_c, rest) refl

pub cut_sound : (c : ℕ) (bytes front back : List ℕ) → cut_at c bytes ≡ Some (front, back) → bytes ≡ front ++ (c ∷ back)
unfolding cut_at
cut_sound c [] front back e = absurd cc
cut_sound c (b ∷ bytes) front back e = elim (cases_Bool (eqb b c)) [
  | inl at_c ↦
      let k = some_pair_parts [] front bytes back (rw at_c at e) in
      let here = eqb-true b c at_c in
      (λ i. here i ∷ k.1 i) ∙ ap (λ (xs : List ℕ). xs ++ (c ∷ back)) k.0
  | inr other ↦
      let m = map_some (λ (p : List ℕ × List ℕ). (b ∷ p.0, p.1)) (cut_at c bytes) (front, back) (rw other at e) in
      let k = cut_sound c bytes m.0.0 m.0.1 m.1 in
      ap (λ (xs : List ℕ). b ∷ xs) k ∙ ap (λ (p : List ℕ × List ℕ). p.0 ++ (c ∷ p.1)) m.2
]

pub cut_again : (c : ℕ) (front back : List ℕ) → ((k : ℕ) → k < length front → get_or front k 0 ≡ c → ⊥) → cut_at c (front ++ (c ∷ back)) ≡ Some (front, back)
unfolding cut_at
cut_again c [] back before = let e : eqb c c ≡ true = eq-eqb c c refl in rw e refl
cut_again c (b ∷ front) back before =
    let no_c : eqb b c ≡ false = ne_eqb b c (before 0 (omega arith)) in
    let rest : cut_at c (front ++ (c ∷ back)) ≡ Some (front, back) = cut_again c front back (λ k lt e. before (suc k) (omega arith) e) in
    rw (no_c, rest) refl
