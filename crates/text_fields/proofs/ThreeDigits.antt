-- The table of the numbers below 1,000.
use Rattle.std.proofs.Common.{◌≡◌, ℕ, suc, zero, ◌+◌, ◌-◌, ◌*◌, ◌/◌, ◌%◌, ◌<◌, ◌≤◌, List, ◌∷◌, [], ◌++◌, ◌&&◌, Bool, true, T, eqb, eqb→eq, eq-zero-or-pos, get_or, take, drop, length, inl, inr, arith, nat_lt, ⊎_elim, ap, sym, ◌∙◌, append_assoc, if◌then◌else◌}
use Rattle.std.proofs.lemmas.Bool.{cases_lt, lt-ltb, le-ltb}
use Rattle.std.proofs.lemmas.List.{take-append-le, length-take-le}
use Rattle.std.proofs.Math.Seq.{take-append-add}
use borrow.Rule.Slice.PartMut.{put_mid}
use Rattle.std.specs.Fmt.{decimal}
use lib.Ieee.Fits.{and_l, and_r}
use Rattle.std.proofs.lemmas.Fmt.{decimal_digit, decimal_step}
use Rattle.text_fields.specs.DigitCounts.{digit_count}
use Rattle.text_fields.specs.declared.threes.TheConstants.{THREES}
use Rattle.text_fields.proofs.Decimals.{decimal_two, decimal_three}

abbrev is_three : ℕ → Bool
is_three n = (eqb (get_or THREES (n * 4) 0) (48 + n / 100) && eqb (get_or THREES (n * 4 + 1) 0) (48 + n % 100 / 10))
    && (eqb (get_or THREES (n * 4 + 2) 0) (48 + n % 10) && eqb (get_or THREES (n * 4 + 3) 0) (48 + digit_count n))

abbrev are_threes : ℕ → Bool
are_threes zero = true
are_threes (suc n) = is_three n && are_threes n

below : (m n : ℕ) → T (are_threes m) → n < m → T (is_three n)
below zero n all lt = absurd (omega arith)
below (suc m) n all lt =
    elim (eq-zero-or-pos (m - n)) [
      | inl none ↦ let e : n ≡ m = omega arith in rw e (and_l (is_three m) (are_threes m) all)
      | inr some ↦ below m n (and_r (is_three m) (are_threes m) all) (omega arith)
    ]

three_at : (n : ℕ) → n < 1000 → T (is_three n)
three_at n lt = below 1000 n tt lt

-- what the table says of how many digits there are
pub count_at : (n : ℕ) → n < 1000 → get_or THREES (n * 4 + 3) 0 ≡ 48 + digit_count n
count_at n lt =
    eqb→eq _ _ (and_r (eqb (get_or THREES (n * 4 + 2) 0) (48 + n % 10)) _
    (and_r (eqb (get_or THREES (n * 4) 0) (48 + n / 100) && eqb (get_or THREES (n * 4 + 1) 0) (48 + n % 100 / 10)) _ (three_at n lt)))

pub last_at : (n : ℕ) → n < 1000 → get_or THREES (n * 4 + 2) 0 ≡ 48 + n % 10
last_at n lt =
    eqb→eq _ _ (and_l (eqb (get_or THREES (n * 4 + 2) 0) (48 + n % 10)) (eqb (get_or THREES (n * 4 + 3) 0) (48 + digit_count n))
    (and_r (eqb (get_or THREES (n * 4) 0) (48 + n / 100) && eqb (get_or THREES (n * 4 + 1) 0) (48 + n % 100 / 10)) _ (three_at n lt)))

pub middle_at : (n : ℕ) → n < 1000 → get_or THREES (n * 4 + 1) 0 ≡ 48 + n % 100 / 10
middle_at n lt =
    eqb→eq _ _ (and_r (eqb (get_or THREES (n * 4) 0) (48 + n / 100)) (eqb (get_or THREES (n * 4 + 1) 0) (48 + n % 100 / 10))
    (and_l _ (eqb (get_or THREES (n * 4 + 2) 0) (48 + n % 10) && eqb (get_or THREES (n * 4 + 3) 0) (48 + digit_count n)) (three_at n lt)))

pub first_at : (n : ℕ) → n < 1000 → get_or THREES (n * 4) 0 ≡ 48 + n / 100
first_at n lt =
    eqb→eq _ _ (and_l (eqb (get_or THREES (n * 4) 0) (48 + n / 100)) (eqb (get_or THREES (n * 4 + 1) 0) (48 + n % 100 / 10))
    (and_l _ (eqb (get_or THREES (n * 4 + 2) 0) (48 + n % 10) && eqb (get_or THREES (n * 4 + 3) 0) (48 + digit_count n)) (three_at n lt)))

-- how many digits there are
count_one : (n : ℕ) → n < 10 → digit_count n ≡ 1
count_one n one = ap (λ (b : Bool). if b then 1 else if nat_lt n 100 then 2 else 3) (lt-ltb n 10 one)

count_two : (n : ℕ) → 10 ≤ n → n < 100 → digit_count n ≡ 2
count_two n more two =
    ap (λ (b : Bool). if b then 1 else if nat_lt n 100 then 2 else 3) (le-ltb n 10 more)
    ∙ ap (λ (b : Bool). if b then 2 else 3) (lt-ltb n 100 two)

count_three : (n : ℕ) → 100 ≤ n → digit_count n ≡ 3
count_three n three =
    ap (λ (b : Bool). if b then 1 else if nat_lt n 100 then 2 else 3) (le-ltb n 10 (omega arith))
    ∙ ap (λ (b : Bool). if b then 2 else 3) (le-ltb n 100 three)

-- one of the three
pub by_count : (P : Type 0) (n : ℕ) → (n < 10 → digit_count n ≡ 1 → P) → (10 ≤ n → n < 100 → digit_count n ≡ 2 → P)
    → (100 ≤ n → digit_count n ≡ 3 → P) → P
by_count P n one two three = ⊎_elim
    (λ (lt : n < 10). one lt (count_one n lt))
    (λ (ge : 10 ≤ n). ⊎_elim
    (λ (lt : n < 100). two ge lt (count_two n ge lt))
    (λ (more : 100 ≤ n). three more (count_three n more))
    (cases_lt n 100))
    (cases_lt n 10)

pub count_bounds : (n : ℕ) → (1 ≤ digit_count n) × (digit_count n ≤ 3)
count_bounds n = by_count ((1 ≤ digit_count n) × (digit_count n ≤ 3)) n
    (λ _ e. (omega arith, omega arith)) (λ _ _ e. (omega arith, omega arith)) (λ _ e. (omega arith, omega arith))

-- where the digits of a short number begin in the table, there are four bytes
pub front_inside : (n : ℕ) → n < 1000 → n * 4 + 3 - digit_count n + 3 < 4000
front_inside n lt = by_count (n * 4 + 3 - digit_count n + 3 < 4000) n
    (λ one e. omega arith) (λ ten two e. omega arith) (λ hundred e. omega arith)

-- four bytes of the table
abbrev pub four : ℕ → List ℕ
four i = get_or THREES i 0 ∷ get_or THREES (i + 1) 0 ∷ get_or THREES (i + 2) 0 ∷ get_or THREES (i + 3) 0 ∷ []

pub three_are : (n : ℕ) → n < 1000 → take 3 (four (n * 4)) ≡ (48 + n / 100) ∷ (48 + n % 100 / 10) ∷ (48 + n % 10) ∷ []
three_are n lt =
    ap (λ (x : ℕ). x ∷ get_or THREES (n * 4 + 1) 0 ∷ get_or THREES (n * 4 + 2) 0 ∷ []) (first_at n lt)
    ∙ ap (λ (x : ℕ). (48 + n / 100) ∷ x ∷ get_or THREES (n * 4 + 2) 0 ∷ []) (middle_at n lt)
    ∙ ap (λ (x : ℕ). (48 + n / 100) ∷ (48 + n % 100 / 10) ∷ x ∷ []) (last_at n lt)

-- the digits of a short number are the front of four bytes
pub front_is : (n : ℕ) → n < 1000 → take (digit_count n) (four (n * 4 + 3 - digit_count n)) ≡ decimal n
front_is n lt = by_count (take (digit_count n) (four (n * 4 + 3 - digit_count n)) ≡ decimal n) n
    (λ one e. let at : n * 4 + 3 - digit_count n ≡ n * 4 + 2 = omega arith in
    let ones : 48 + n % 10 ≡ 48 + n = omega arith in
    rw (at, e) (ap (λ (x : ℕ). x ∷ []) (last_at n lt ∙ ones) ∙ sym (decimal_digit n one)))
    (λ ten two e. let at : n * 4 + 3 - digit_count n ≡ n * 4 + 1 = omega arith in
    let next : n * 4 + 1 + 1 ≡ n * 4 + 2 = omega arith in
    let tens : 48 + n % 100 / 10 ≡ 48 + n / 10 = omega arith in
    rw (at, e, next) (ap (λ (x : ℕ). x ∷ get_or THREES (n * 4 + 2) 0 ∷ []) (middle_at n lt ∙ tens)
    ∙ ap (λ (x : ℕ). (48 + n / 10) ∷ x ∷ []) (last_at n lt) ∙ sym (decimal_two n ten two)))
    (λ hundred e. let at : n * 4 + 3 - digit_count n ≡ n * 4 = omega arith in
    let ones : 48 + n % 10 ≡ 48 + n % 100 % 10 = omega arith in
    rw (at, e) (three_are n lt ∙ ap (λ (x : ℕ). (48 + n / 100) ∷ (48 + n % 100 / 10) ∷ x ∷ []) ones ∙ sym (decimal_three n hundred lt)))

-- the three digits of a number of more
pub decimal_more : (n : ℕ) → 1000 ≤ n → n < 1000000 →
    decimal n ≡ decimal (n / 1000) ++ (48 + n % 1000 / 100) ∷ (48 + n % 1000 % 100 / 10) ∷ (48 + n % 1000 % 10) ∷ []
decimal_more n least most =
    let a : n / 10 / 10 / 10 ≡ n / 1000 = omega arith in
    let b : n / 10 / 10 % 10 ≡ n % 1000 / 100 = omega arith in
    let c : n / 10 % 10 ≡ n % 1000 % 100 / 10 = omega arith in
    let d : n % 10 ≡ n % 1000 % 10 = omega arith in
    decimal_step n (omega arith) (omega arith)
    ∙ ap (λ x. x ++ (48 + n % 10) ∷ []) (decimal_step (n / 10) (omega arith) (omega arith)
    ∙ ap (λ x. x ++ (48 + n / 10 % 10) ∷ []) (decimal_step (n / 10 / 10) (omega arith) (omega arith)))
    ∙ append_assoc (decimal (n / 10 / 10 / 10) ++ (48 + n / 10 / 10 % 10) ∷ []) ((48 + n / 10 % 10) ∷ []) ((48 + n % 10) ∷ [])
    ∙ append_assoc (decimal (n / 10 / 10 / 10)) ((48 + n / 10 / 10 % 10) ∷ []) ((48 + n / 10 % 10) ∷ (48 + n % 10) ∷ [])
    ∙ ap (λ x. decimal x ++ (48 + n / 10 / 10 % 10) ∷ (48 + n / 10 % 10) ∷ (48 + n % 10) ∷ []) a
    ∙ ap (λ x. decimal (n / 1000) ++ (48 + x) ∷ (48 + n / 10 % 10) ∷ (48 + n % 10) ∷ []) b
    ∙ ap (λ x. decimal (n / 1000) ++ (48 + n % 1000 / 100) ∷ (48 + x) ∷ (48 + n % 10) ∷ []) c
    ∙ ap (λ x. decimal (n / 1000) ++ (48 + n % 1000 / 100) ∷ (48 + n % 1000 % 100 / 10) ∷ (48 + x) ∷ []) d

-- after a write of some bytes, of which the first count
pub front_of : (xs ys : List ℕ) (at k count : ℕ) → at ≤ length xs → count ≤ length ys →
    take (at + count) (put_mid at k xs ys) ≡ take at xs ++ take count ys
front_of xs ys at k count inside some =
    let rest = drop k (drop at xs) in
    ap (λ (n : ℕ). take (n + count) (take at xs ++ (ys ++ rest))) (sym (length-take-le at xs inside))
    ∙ take-append-add (take at xs) (ys ++ rest) count
    ∙ ap (λ l. take at xs ++ l) (take-append-le count ys rest some)
