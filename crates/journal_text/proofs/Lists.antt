-- Readers of all fields that are left.
use Rattle.std.proofs.Common.{◌≡◌, ℕ, List, [], ◌∷◌, ◌++◌, Option, Some, None, refl, ap, sym, ◌∙◌, append_assoc, append-nil}
use Rattle.journal_text.specs.AnswerReading.{all_of, with_front}
use Rattle.journal_text.specs.LineReading.{◌>>=◌}

pub all_stop : {A : Type 0} (reads : List ℕ → Option A) (front : List A) (fields fs : List (List ℕ)) (field : List ℕ) (told : Option (List A)) →
    fields ≡ field ∷ fs → reads field ≡ None → with_front front (all_of reads fields) ≡ told → told ≡ None
unfolding all_of
all_stop reads front fields fs field told e stop so_far = sym so_far ∙ ap (λ (xs : List (List ℕ)). with_front front (all_of reads xs)) e ∙ rw stop refl

pub all_more : {A : Type 0} (reads : List ℕ → Option A) (front next : List A) (x : A) (fields fs : List (List ℕ)) (field : List ℕ) (told : Option (List A)) →
    fields ≡ field ∷ fs → reads field ≡ Some x → next ≡ front ++ (x ∷ []) → with_front front (all_of reads fields) ≡ told → with_front next (all_of reads fs) ≡ told
unfolding all_of
all_more reads front next x fields fs field told e more grown so_far =
    ap (λ ys. with_front ys (all_of reads fs)) grown ∙ step (all_of reads fs) ∙ rw more refl ∙ ap (λ (xs : List (List ℕ)). with_front front (all_of reads xs)) (sym e) ∙ so_far
  where
    step : (told : Option (List _)) → with_front (front ++ (x ∷ [])) told ≡ with_front front (told >>= λ xs. Some (x ∷ xs))
    step None = refl
    step (Some xs) = ap Some (append_assoc front (x ∷ []) xs)

pub all_end : {A : Type 0} (reads : List ℕ → Option A) (front : List A) (fields : List (List ℕ)) (told : Option (List A)) → fields ≡ [] → with_front front (all_of reads fields) ≡ told → told ≡ Some front
unfolding all_of
all_end reads front fields told e so_far = sym so_far ∙ ap (λ (xs : List (List ℕ)). with_front front (all_of reads xs)) e ∙ ap Some (append-nil front)

pub all_start : {A : Type 0} (told : Option (List A)) (none : List A) → none ≡ [] → with_front none told ≡ told
all_start None none e = refl
all_start (Some xs) none e = ap (λ ys. Some (ys ++ xs)) e
