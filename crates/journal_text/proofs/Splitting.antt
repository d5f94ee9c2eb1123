-- Fields between single spaces.
use Rattle.std.proofs.Common.{◌≡◌, ℕ, ◌+◌, ◌<◌, ◌≤◌, Bool, true, false, not, IsTrue, ◌↔◌, List, [], ◌∷◌, ◌++◌, length, get_or, take, drop, refl, sym, ap, ◌∙◌, subst, arith, take_all, take-append-drop}
use Rattle.std.specs.List.{slice_split, All}
use Rattle.std.proofs.lemmas.Bool.{ne_eqb}
use Rattle.std.proofs.lemmas.List.{get_or-take, get_or_default, length-take-le}
use Rattle.std.proofs.lemmas.List.Splits.{slice_split_at, slice_split_none, length-slice_split}
use Rattle.journal_text.specs.Cursors.{fields_left, is_space}
use Rattle.journal_text.proofs.Values.{next_byte}

no_space : (bytes : List ℕ) (len : ℕ) → len ≤ length bytes → ((k : ℕ) → k < len → get_or bytes k 0 ≡ 32 → ⊥) → All (λ b. is_space b ≡ false) (take len bytes)
no_space bytes len within before k d lt =
    let below : k < len = omega (arith, length-take-le len bytes within) in
    let there : get_or (take len bytes) k d ≡ get_or bytes k 0 = get_or-take len bytes k d below ∙ get_or_default bytes k d 0 (omega arith) in
    ne_eqb (get_or (take len bytes) k d) 32 (λ e. before k below (sym there ∙ e))

pub split_last : (bytes : List ℕ) (len : ℕ) → len ≡ length bytes → ((k : ℕ) → k < len → get_or bytes k 0 ≡ 32 → ⊥) → slice_split is_space bytes ≡ bytes ∷ []
split_last bytes len all before =
    slice_split_none is_space bytes (subst (λ (xs : List ℕ). All (λ b. is_space b ≡ false) xs) (take_all len bytes (omega arith)) (no_space bytes len (omega arith) before))

pub split_first : (bytes : List ℕ) (len : ℕ) → len < length bytes → ((k : ℕ) → k < len → get_or bytes k 0 ≡ 32 → ⊥) → get_or bytes len 0 ≡ 32 →
    slice_split is_space bytes ≡ take len bytes ∷ slice_split is_space (drop (len + 1) bytes)
split_first bytes len within before here =
    let whole : bytes ≡ take len bytes ++ (32 ∷ drop (len + 1) bytes) = sym (take-append-drop len bytes) ∙ ap (λ (xs : List ℕ). take len bytes ++ xs) (next_byte bytes len within ∙ ap (λ b. b ∷ drop (len + 1) bytes) here) in
    ap (slice_split is_space) whole ∙ slice_split_at is_space (take len bytes) 32 (drop (len + 1) bytes) (no_space bytes len (omega arith) before) refl

-- no field is left only where none was said to be left
pub none_left : (some : Bool) (bytes : List ℕ) → IsTrue (not some) ↔ (fields_left some bytes ≡ [])
none_left true bytes = (λ t. absurd cc, λ e. absurd (let n : length (slice_split is_space bytes) ≡ 0 = ap length e in omega (arith, length-slice_split is_space bytes, n)))
none_left false bytes = (λ t. refl, λ e. refl)
