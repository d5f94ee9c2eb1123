-- Where a line ends.
use Rattle.std.proofs.Common.{◌≡◌, ℕ, zero, suc, ◌+◌, ◌<◌, ◌≤◌, List, [], ◌∷◌, ◌++◌, length, get_or, take, drop, sym, ap, ◌∙◌, arith, take-append-drop}
use Rattle.journal_text.specs.Journals.{HasNoLf}
use Rattle.journal_text.proofs.Values.{next_byte}

pub no_lf_before : (bytes : List ℕ) (len : ℕ) → len ≤ length bytes → ((k : ℕ) → k < len → get_or bytes k 0 ≡ 10 → ⊥) → HasNoLf (take len bytes)
no_lf_before bytes zero within before = tt
no_lf_before [] (suc len) within before = absurd (omega arith)
no_lf_before (b ∷ bytes) (suc len) within before = (before 0 (omega arith), no_lf_before bytes len (omega arith) (λ k lt e. before (suc k) (omega arith) e))

pub line_whole : (bytes : List ℕ) (len : ℕ) → len < length bytes → get_or bytes len 0 ≡ 10 → bytes ≡ take len bytes ++ (10 ∷ drop (len + 1) bytes)
line_whole bytes len within here = sym (take-append-drop len bytes) ∙ ap (λ (xs : List ℕ). take len bytes ++ xs) (next_byte bytes len within ∙ ap (λ b. b ∷ drop (len + 1) bytes) here)
