-- Fillers written one after another.
use Rattle.std.proofs.Common.{◌≡◌, ℕ, suc, ◌+◌, ◌-◌, ◌<◌, ◌≤◌, List, [], ◌∷◌, ◌++◌, length, take, drop, set, replicate, sym, ◌∙◌, ap, arith, drop-cons}
use Rattle.std.proofs.lemmas.List.{append_assoc, append-nil, take-append-drop, set-append_right, replicate-append-replicate, length-append, length-take-le, length-replicate, length-drop}
use Rattle.heap_terms.specs.Layout.{filler_word}
use Rattle.object_walk.specs.Fillers.{with_fillers}

-- none yet
pub none_filled : (words : List ℕ) (from k : ℕ) → k ≡ 0 → words ≡ with_fillers words from k
none_filled words from k e =
    let same : from + k ≡ from = omega arith in
    rw (same, e, append-nil) (sym (take-append-drop from words))

-- one more
pub more_filled : (words : List ℕ) (from k : ℕ) → from + k < length words → set (with_fillers words from k) (from + k) filler_word ≡ with_fillers words from (k + 1)
more_filled words from k inside =
    let before : List ℕ = take from words ++ replicate k filler_word in
    let long : length before ≡ from + k = omega (arith, length-append (take from words) (replicate k filler_word), length-take-le from words (omega arith), length-replicate k filler_word) in
    let behind : List ℕ = drop (suc (from + k)) words in
    let here : from + k - (from + k) ≡ 0 = omega arith in
    let next : suc (from + k) ≡ from + (k + 1) = omega arith in
    set-append_right before (drop (from + k) words) (from + k) (from + k) filler_word long (omega arith)
    ∙ ap (λ (i : ℕ). before ++ set (drop (from + k) words) i filler_word) here
    ∙ ap (λ (ws : List ℕ). before ++ set ws 0 filler_word) (drop-cons words (from + k) 0 inside)
    ∙ sym (append_assoc before (filler_word ∷ []) behind)
    ∙ ap (λ (ws : List ℕ). ws ++ behind) (append_assoc (take from words) (replicate k filler_word) (filler_word ∷ []))
    ∙ ap (λ (ws : List ℕ). take from words ++ ws ++ behind) (replicate-append-replicate k 1 filler_word)
    ∙ ap (λ (i : ℕ). take from words ++ replicate (k + 1) filler_word ++ drop i words) next

pub one_filled : (words : List ℕ) (from i : ℕ) → from ≤ i → i < length words → set (with_fillers words from (i - from)) i filler_word ≡ with_fillers words from (i + 1 - from)
one_filled words from i low inside =
    let at : from + (i - from) ≡ i = omega arith in
    let count : i - from + 1 ≡ i + 1 - from = omega arith in
    let filled : set (with_fillers words from (i - from)) (from + (i - from)) filler_word ≡ with_fillers words from (i - from + 1) = more_filled words from (i - from) (omega arith) in
    ap (λ (j : ℕ). set (with_fillers words from (i - from)) j filler_word) (sym at) ∙ filled ∙ ap (λ (k : ℕ). with_fillers words from k) count

pub length_filled : (words : List ℕ) (from k : ℕ) → from + k ≤ length words → length (with_fillers words from k) ≡ length words
length_filled words from k inside =
    omega (
      arith,
      length-append (take from words ++ replicate k filler_word) (drop (from + k) words),
      length-append (take from words) (replicate k filler_word),
      length-take-le from words (omega arith),
      length-replicate k filler_word,
      length-drop (from + k) words,
    )
