-- The words after a copy, one by one, and after a forwarding word was left.
use Rattle.std.proofs.Common.{◌≡◌, ℕ, ◌+◌, ◌-◌, ◌<◌, ◌≤◌, List, ◌++◌, length, get_or, set, take, drop, inl, inr, ◌⊎◌, sym, ◌∙◌, ap, subst, arith}
use Rattle.std.proofs.lemmas.Bool.{cases_lt, cases_eq}
use Rattle.std.proofs.lemmas.List.{length-append, length-take-le, length-drop, length-set, get_or-set_same, get_or-set_other, get_or_append_left, get_or-append_right, get_or-take, get_or-drop}
use Rattle.std.proofs.lemmas.Grind.{same_number_lists}
use Rattle.word_space.specs.Space.{copied}
use Rattle.word_space.proofs.Filling.{length_copied}

-- a copy can be made
pub record CanCopy (words : List ℕ) (from to n : ℕ) : Type 0 where
  pub from_within : from + n ≤ length words
  pub to_within : to + n ≤ length words

pub copied-in : (words : List ℕ) (from to n i : ℕ) → CanCopy words from to n → i < n → get_or (copied words from to n) (to + i) 0 ≡ get_or words (from + i) 0
copied-in words from to n i h l =
    let a = h.from_within in
    let b = h.to_within in
    let front = take to words in
    let mid = take n (drop from words) in
    let rest = drop (to + n) words in
    let front_length : length front ≡ to = length-take-le to words (omega arith) in
    let mid_length : length mid ≡ n = length-take-le n (drop from words) (omega (arith, length-drop from words)) in
    let both = length-append front mid in
    let back : (to + i) - to ≡ i = omega arith in
    get_or_append_left (front ++ mid) rest 0 (to + i) (omega arith)
    ∙ get_or-append_right front mid to (to + i) 0 front_length (omega arith)
    ∙ ap (λ (k : ℕ). get_or mid k 0) back
    ∙ get_or-take n (drop from words) i 0 l ∙ get_or-drop from words i 0

pub copied-out : (words : List ℕ) (from to n i : ℕ) → CanCopy words from to n → (i < to) ⊎ (to + n ≤ i) → get_or (copied words from to n) i 0 ≡ get_or words i 0
copied-out words from to n i h (inl l) =
    let a = h.from_within in
    let b = h.to_within in
    let front = take to words in
    let mid = take n (drop from words) in
    let front_length : length front ≡ to = length-take-le to words (omega arith) in
    let both = length-append front mid in
    get_or_append_left (front ++ mid) (drop (to + n) words) 0 i (omega arith) ∙ get_or_append_left front mid 0 i (omega arith) ∙ get_or-take to words i 0 l
copied-out words from to n i h (inr l) =
    let a = h.from_within in
    let b = h.to_within in
    let front = take to words in
    let mid = take n (drop from words) in
    let front_length : length front ≡ to = length-take-le to words (omega arith) in
    let mid_length : length mid ≡ n = length-take-le n (drop from words) (omega (arith, length-drop from words)) in
    let both : length (front ++ mid) ≡ to + n = length-append front mid ∙ omega arith in
    let back : (to + n) + (i - (to + n)) ≡ i = omega arith in
    get_or-append_right (front ++ mid) (drop (to + n) words) (to + n) i 0 both l ∙ get_or-drop (to + n) words (i - (to + n)) 0 ∙ ap (λ (k : ℕ). get_or words k 0) back

-- two words copied by two writes
pub copied-pair : (words : List ℕ) (from to : ℕ) → CanCopy words from to 2 →
    set (set words to (get_or words from 0)) (to + 1) (get_or words (from + 1) 0) ≡ copied words from to 2
copied-pair words from to h =
    let a = h.from_within in
    let b = h.to_within in
    let first = set words to (get_or words from 0) in
    let both = set first (to + 1) (get_or words (from + 1) 0) in
    let first_long = length-set words to (get_or words from 0) in
    let both_long = length-set first (to + 1) (get_or words (from + 1) 0) in
    let copied_long = length_copied words from to 2 (omega arith) (omega arith) in
    same_number_lists both (copied words from to 2) (both_long ∙ first_long ∙ sym copied_long) (λ k l. elim (cases_eq k (to + 1)) [
      | inl is ↦ (let one : get_or (copied words from to 2) (to + 1) 0 ≡ get_or words (from + 1) 0 = copied-in words from to 2 1 h (omega arith) in
          rw is (get_or-set_same first (to + 1) (get_or words (from + 1) 0) 0 (omega arith) ∙ sym one))
      | inr not_second ↦ get_or-set_other first (to + 1) k (get_or words (from + 1) 0) 0 not_second ∙ (elim (cases_eq k to) [
        | inl is ↦ (let zero_is : to + 0 ≡ to = omega arith in
            let from_is : from + 0 ≡ from = omega arith in
            let none : get_or (copied words from to 2) (to + 0) 0 ≡ get_or words (from + 0) 0 = copied-in words from to 2 0 h (omega arith) in
            rw is (get_or-set_same words to (get_or words from 0) 0 (omega arith) ∙ sym (subst (λ (x : ℕ). get_or (copied words from to 2) x 0 ≡ get_or words from 0) zero_is
            (subst (λ (x : ℕ). get_or (copied words from to 2) (to + 0) 0 ≡ get_or words x 0) from_is none))))
        | inr not_first ↦ get_or-set_other words to k (get_or words from 0) 0 not_first ∙ sym (copied-out words from to 2 k h (elim (cases_lt k to) [ inl m ↦ inl m | inr m ↦ inr (omega arith) ]))
      ])
    ])

-- the words after an object of a size was copied, and its old place has the forwarding word 1 and then the word that
-- refers to the copy
abbrev pub forwarded : List ℕ → ℕ → ℕ → ℕ → ℕ → List ℕ
forwarded words from to size word = set (set (copied words from to size) from 1) (from + 1) word

-- what these words are
pub record IsForwarded (words new : List ℕ) (from to size word : ℕ) : Type 0 where
  pub long : length new ≡ length words
  pub first : get_or new from 0 ≡ 1
  pub second : get_or new (from + 1) 0 ≡ word
  pub copy : (i : ℕ) → i < size → get_or new (to + i) 0 ≡ get_or words (from + i) 0
  pub others : (i : ℕ) → (i < from) ⊎ (from + size ≤ i) → (i < to) ⊎ (to + size ≤ i) → get_or new i 0 ≡ get_or words i 0

pub forwarded-is : (words : List ℕ) (from to size word : ℕ) → CanCopy words from to size → 2 ≤ size → (from + size ≤ to) ⊎ (to + size ≤ from) →
    IsForwarded words (forwarded words from to size word) from to size word
forwarded-is words from to size word h least apart =
    let a = h.from_within in
    let b = h.to_within in
    let copy = copied words from to size in
    let copy_long = length_copied words from to size (omega arith) (omega arith) in
    let one = set copy from 1 in
    let one_long = length-set copy from 1 in
    let two_long = length-set one (from + 1) word in
    let other : (i : ℕ) → (i ≡ from → ⊥) → (i ≡ from + 1 → ⊥) → get_or (set one (from + 1) word) i 0 ≡ get_or copy i 0 =
    λ i p q. get_or-set_other one (from + 1) i word 0 q ∙ get_or-set_other copy from i 1 0 p in
    record {
      long = two_long ∙ one_long ∙ copy_long;
      first = get_or-set_other one (from + 1) from word 0 (λ e. omega arith) ∙ get_or-set_same copy from 1 0 (omega arith);
      second = get_or-set_same one (from + 1) word 0 (omega arith);
      copy = λ i l. other (to + i) (away_first i l) (away_second i l) ∙ copied-in words from to size i h l;
      others = λ i p q. other i (out_first i p) (out_second i p) ∙ copied-out words from to size i h q;
    }
  where
    away_first : (i : ℕ) → i < size → to + i ≡ from → ⊥
    away_first i l e = elim apart [ inl m ↦ omega (arith, m, l, e) | inr m ↦ omega (arith, m, l, e) ]

    away_second : (i : ℕ) → i < size → to + i ≡ from + 1 → ⊥
    away_second i l e = elim apart [ inl m ↦ omega (arith, m, l, e) | inr m ↦ omega (arith, m, l, e, least) ]

    out_first : (i : ℕ) → (i < from) ⊎ (from + size ≤ i) → i ≡ from → ⊥
    out_first i (inl m) e = omega (arith, m, e)
    out_first i (inr m) e = omega (arith, m, e, least)

    out_second : (i : ℕ) → (i < from) ⊎ (from + size ≤ i) → i ≡ from + 1 → ⊥
    out_second i (inl m) e = omega (arith, m, e)
    out_second i (inr m) e = omega (arith, m, e, least)
