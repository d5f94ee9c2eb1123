-- The words of an empty table for three pairs, at the start of a page.
use Rattle.std.proofs.Common.{◌≡◌, ℕ, zero, suc, ◌+◌, ◌<◌, List, [], ◌∷◌, ◌++◌, refl, arith, slice_index}
use Rattle.eq_index.specs.Tables.{HasTable}

abbrev pub three_pairs : List ℕ
three_pairs = 3889 ∷ 2 ∷ 0 ∷ 0 ∷ 0x51 ∷ 0x51 ∷ 0x51 ∷ 0x51 ∷ 0x51 ∷ 0x51 ∷ 0 ∷ 0 ∷ 0 ∷ 0 ∷ 0 ∷ 0 ∷ []

module _ (rest : List ℕ) where
  unbound_there : (i : ℕ) → i < 6 → slice_index (three_pairs ++ rest) (0 + 4 + i) ≡ 0x51
  unbound_there zero l = refl
  unbound_there (suc zero) l = refl
  unbound_there (suc (suc zero)) l = refl
  unbound_there (suc (suc (suc zero))) l = refl
  unbound_there (suc (suc (suc (suc zero)))) l = refl
  unbound_there (suc (suc (suc (suc (suc zero))))) l = refl
  unbound_there (suc (suc (suc (suc (suc (suc i)))))) l = absurd (omega (arith, l))

  kept_there : (i : ℕ) → i < 6 → slice_index (three_pairs ++ rest) (0 + 4 + 6 + i) ≡ 0
  kept_there zero l = refl
  kept_there (suc zero) l = refl
  kept_there (suc (suc zero)) l = refl
  kept_there (suc (suc (suc zero))) l = refl
  kept_there (suc (suc (suc (suc zero)))) l = refl
  kept_there (suc (suc (suc (suc (suc zero))))) l = refl
  kept_there (suc (suc (suc (suc (suc (suc i)))))) l = absurd (omega (arith, l))

  pub has_three : HasTable (three_pairs ++ rest) 0
  has_three = record {
    b = 3;
    pairs = [];
    is = record {
      least = omega arith;
      most = omega arith;
      within = omega arith;
      low = omega arith;
      header = refl;
      flag = refl;
      count = refl;
      room = omega arith;
      keys = λ k l. absurd (omega (arith, l));
      values = λ k l. absurd (omega (arith, l));
      unbound = λ i from below. unbound_there i below;
      kept = λ i below. kept_there i below;
      once = λ i k li lk e. absurd (omega (arith, li));
    };
  }
