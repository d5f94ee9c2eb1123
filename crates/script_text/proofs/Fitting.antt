-- The meanings of a line's fields have their forms and ranges.
use Rattle.std.proofs.Common.{◌≡◌, ℕ, zero, suc, ◌<◌, ◌≤◌, ◌^◌, Bool, true, false, cond, eqb, ltb, leb, ◌&&◌, ◌||◌, not, List, [], ◌∷◌, ◌++◌, length, take, drop, replicate, get_or, Option, Some, None, Result, Ok, Err, refl, subst, arith}
use Rattle.std.specs.Prelude.{codes, bytes_eq, ok_or, option_map, option_and_then}
use Rattle.std.specs.Char.{is_digit, digit_value}
use Rattle.std.specs.Str.Parse.{AllDigits, digits_value}
use Rattle.std.proofs.lemmas.Int.Digits.{digits_value-lt}
use Rattle.std.specs.List.{slice_split, All, list_all}
use Rattle.std.proofs.lemmas.Bool.{and_parts, ltb-true, leb-true}
use Rattle.std.proofs.lemmas.List.Elements.{All-nil, All-cons, All-replicate, All-append}
use Rattle.heap_terms.specs.declared.cells.Cell.{Cell}
use Rattle.heap_terms.specs.declared.cells.Cell.TheVariants.{Stack, Exact, Shared}
use Rattle.heap_terms.specs.declared.cells.Raw.{Raw}
use Rattle.heap_terms.specs.declared.faults.Why.{Why}
use Rattle.heap_terms.specs.declared.faults.Why.TheVariants.{Fields, Form, Range}
use Rattle.heap_terms.specs.Fields.{◌>>=◌, number_of, signed_of, raw_word_of, raw_cell_of, is_numeral, cell_of, cell_number, ranged, between, turns_of, turns_of_parts}
use Rattle.heap_terms.specs.Grammar.{FieldForm, LispCell, RawCell, RawWord, WeaknessWord, Number, Signed, Meaning, Saying, Statement, Row, meaning_of, said_of, said_by, turns_of_all}
use Rattle.heap_terms.specs.Valid.{IsCell, IsRaw}

bind_ok : {A B : Type 0} (r : Result A Why) (f : A → Result B Why) (y : B) → (r >>= f) ≡ Ok y → (x : A) × (r ≡ Ok x) × (f x ≡ Ok y)
bind_ok (Ok x) f y e = (x, refl, e)
bind_ok (Err d) f y e = absurd cc

some_from_ok : {A : Type 0} (o : Option A) (why : Why) (x : A) → ok_or o why ≡ Ok x → o ≡ Some x
some_from_ok None why x e = absurd cc
some_from_ok (Some y) why x e = cc

tested : {A : Type 0} (b : Bool) (y x : A) (why : Why) → cond b (Ok y) (Err why) ≡ Ok x → (b ≡ true) × (y ≡ x)
tested true y x why e = (refl, cc)
tested false y x why e = absurd cc

ranged_ok : {A : Type 0} (test : A → Bool) (o : Option A) (x : A) → ranged test o ≡ Ok x → test x ≡ true
ranged_ok test None x e = absurd cc
ranged_ok {A = A} test (Some y) x e = let t = tested (test y) y x Range e in subst (λ (z : A). test z ≡ true) t.1 t.0

-- ---- cells

kept : (b : Bool) (n m : ℕ) → cond b (Some n) None ≡ Some m → (b ≡ true) × (n ≡ m)
kept true n m e = (refl, cc)
kept false n m e = absurd cc

number_below : (limit : ℕ) (digits : List ℕ) (n : ℕ) → cell_number limit digits ≡ Some n → n < limit
unfolding cell_number
number_below limit digits n e = at (number_of digits) e
  where
    at : (o : Option ℕ) → option_and_then (λ k. cond (ltb k limit && (eqb (length digits) 1 || not (eqb (get_or digits 0 0) 48))) (Some k) None) o ≡ Some n → n < limit
    at None h = absurd cc
    at (Some k) h =
        let t = kept (ltb k limit && (eqb (length digits) 1 || not (eqb (get_or digits 0 0) 48))) k n h in
        let both = and_parts (ltb k limit) (eqb (length digits) 1 || not (eqb (get_or digits 0 0) 48)) t.0 in
        let below : k < limit = ltb-true k limit both.0 in
        omega (arith, t.1)

made : (kind : ℕ → Cell) (o : Option ℕ) (c : Cell) → ((n : ℕ) → o ≡ Some n → IsCell (kind n)) → option_map kind o ≡ Some c → IsCell c
made kind None c h e = absurd cc
made kind (Some n) c h e = let same : kind n ≡ c = cc in subst IsCell same (h n refl)

chosen : {A : Type 0} (b : Bool) (x y : Option A) (P : A → Type 0) → ((c : A) → x ≡ Some c → P c) → ((c : A) → y ≡ Some c → P c) → (c : A) → cond b x y ≡ Some c → P c
chosen true x y P hx hy c e = hx c e
chosen false x y P hx hy c e = hy c e

no_cell : (c : Cell) → None ≡ Some c → IsCell c
no_cell c e = absurd cc

cell_is : (field : List ℕ) (c : Cell) → cell_of field ≡ Some c → IsCell c
unfolding cell_of
cell_is [] c e = absurd cc
cell_is (b ∷ digits) c e =
    let n = cell_number 16 digits in
    chosen (eqb b 115) (option_map Stack n) _ IsCell (λ d h. made Stack n d (λ k g. number_below 16 digits k g) h)
    (λ d h. chosen (eqb b 98) (option_map Exact n) _ IsCell (λ d h. made Exact n d (λ k g. number_below 16 digits k g) h)
    (λ d h. chosen (eqb b 103) (option_map Shared n) None IsCell (λ d h. made Shared n d (λ k g. number_below 16 digits k g) h) no_cell d h) d h) c e

raw_is : (field : List ℕ) (r : Raw) → raw_cell_of field ≡ Some r → IsRaw r
unfolding raw_cell_of
raw_is [] r e = absurd cc
raw_is (b ∷ digits) r e =
    chosen (eqb b 114) (option_map (λ n. record { 0 = n }) (cell_number 8 digits)) None IsRaw (λ s h. at (cell_number 8 digits) s (λ k g. number_below 8 digits k g) h) (λ s h. absurd cc) r e
  where
    at : (o : Option ℕ) (s : Raw) → ((k : ℕ) → o ≡ Some k → k < 8) → option_map (λ n. record { 0 = n }) o ≡ Some s → IsRaw s
    at None s h e = absurd cc
    at (Some k) s h e = let same : record { 0 = k } ≡ s = cc in subst IsRaw same (h k refl)

-- ---- raw words

all_digits : (ds : List ℕ) → list_all (λ c. is_digit c 16) ds ≡ true → AllDigits 16 ds
all_digits [] h = tt
all_digits (c ∷ ds) h =
    let both = and_parts (is_digit c 16) (list_all (λ x. is_digit x 16) ds) h in
    (ltb-true (digit_value c) 16 both.0, all_digits ds both.1)

pub power : (k m : ℕ) → k ≤ m → 16 ^ k ≤ 16 ^ m
power zero zero h = omega arith
power (suc k) zero h = absurd (omega arith)
power zero (suc m) h = let more = power zero m (omega arith) in omega (arith, more)
power (suc k) (suc m) h = let more = power k m (omega arith) in omega (arith, more)

word_is : (field : List ℕ) (w : ℕ) → raw_word_of field ≡ Some w → w < 2 ^ 64
unfolding raw_word_of
word_is field w e =
    let ds = drop 2 field in
    let t = kept (bytes_eq (take 2 field) (codes "0x") && is_numeral 16 16 ds) (digits_value 16 ds) w e in
    let a = and_parts (bytes_eq (take 2 field) (codes "0x")) (is_numeral 16 16 ds) t.0 in
    let b = and_parts (leb 1 (length ds) && leb (length ds) 16) (list_all (λ c. is_digit c 16) ds) a.1 in
    let d = and_parts (leb 1 (length ds)) (leb (length ds) 16) b.0 in
    let short : length ds ≤ 16 = leb-true (length ds) 16 d.1 in
    let below = digits_value-lt 16 ds (all_digits ds b.1) in
    let most = power (length ds) 16 short in
    omega (arith, below, most, t.1)

-- ---- meanings

-- a meaning is what its form says
abbrev pub Fits : (form : FieldForm) → Meaning form → Type 0
Fits LispCell c = IsCell c
Fits (Number test) n = test n ≡ true
Fits (Signed test) n = test n ≡ true
Fits RawCell r = IsRaw r
Fits RawWord w = w < 2 ^ 64
Fits WeaknessWord w = Unit {0}

-- whatever is said of meanings that fit has a property
abbrev pub EachSaid : (forms : List FieldForm) → Saying forms → (Statement → Type 0) → Type 0
EachSaid [] says P = P says
EachSaid (form ∷ forms) says P = (m : Meaning form) → Fits form m → EachSaid forms (says m) P

abbrev done : {A : Type 0} → A → Result A Why
done x = Ok x

is_ok : {A : Type 0} (x y : A) → done x ≡ done y → x ≡ y
is_ok x y e = cc

meaning_fits : (form : FieldForm) (field : List ℕ) (m : Meaning form) → meaning_of form field ≡ Ok m → Fits form m
meaning_fits LispCell field c e = cell_is field c (some_from_ok (cell_of field) Form c e)
meaning_fits (Number test) field n e = ranged_ok test (number_of field) n e
meaning_fits (Signed test) field n e = ranged_ok test (signed_of field) n e
meaning_fits RawCell field r e = raw_is field r (some_from_ok (raw_cell_of field) Form r e)
meaning_fits RawWord field w e = word_is field w (some_from_ok (raw_word_of field) Form w e)
meaning_fits WeaknessWord field w e = tt

each_said : (forms : List FieldForm) (says : Saying forms) (P : Statement → Type 0) (fs : List (List ℕ)) (said : Statement) → EachSaid forms says P →
    said_of forms says fs ≡ Ok said → P said
each_said [] says P fs said h e = subst P (is_ok says said e) h
each_said (form ∷ forms) says P [] said h e = absurd cc
each_said (form ∷ forms) says P (f ∷ fs) said h e =
    let one = bind_ok (meaning_of form f) (λ m. said_of forms (says m) fs) said e in
    each_said forms (says one.0) P fs said (h one.0 (meaning_fits form f one.0 one.1)) one.2

-- and so has what a row says
pub row_said : (r : Row) (P : Statement → Type 0) (fs : List (List ℕ)) (said : Statement) → EachSaid r.forms r.says P → said_by r fs ≡ Ok said → P said
row_said r P fs said h e = each_said r.forms r.says P fs said h (counted (eqb (length fs) (length r.forms)) (said_of r.forms r.says fs) e)
  where
    counted : (b : Bool) (x : Result Statement Why) → cond b x (Err Fields) ≡ Ok said → x ≡ Ok said
    counted true x h = h
    counted false x h = absurd cc

-- ---- turns

All-one : {X : Type 0} (P : X → Type 0) (x : X) → P x → All P (x ∷ [])
All-one P x h = All-cons P x [] h (All-nil P)

parts_below : (threads : ℕ) (parts : List (List ℕ)) (ts : List ℕ) → turns_of_parts threads parts ≡ Ok ts → All (λ t. t < threads) ts
parts_below threads [] ts e = absurd cc
parts_below threads (t ∷ []) ts e =
    let b = bind_ok (ranged (λ x. ltb x threads) (number_of t)) (λ x. Ok (x ∷ [])) ts e in
    subst (All (λ x. x < threads)) (is_ok (b.0 ∷ []) ts b.2) (All-one (λ x. x < threads) b.0 (ltb-true b.0 threads (ranged_ok (λ x. ltb x threads) (number_of t) b.0 b.1)))
parts_below threads (t ∷ k ∷ []) ts e =
    let b = bind_ok (ok_or (number_of t) Form) _ ts e in
    let d = bind_ok (ok_or (number_of k) Form) _ ts b.2 in
    let test = tested (ltb b.0 threads && between 1 65535 d.0) (replicate d.0 b.0) ts Range d.2 in
    let both = and_parts (ltb b.0 threads) (between 1 65535 d.0) test.0 in
    subst (All (λ x. x < threads)) test.1 (All-replicate (λ x. x < threads) d.0 b.0 (ltb-true b.0 threads both.0))
parts_below threads (t ∷ k ∷ more ∷ parts) ts e = absurd cc

pub turns_below : (threads : ℕ) (fs : List (List ℕ)) (ts : List ℕ) → turns_of_all threads fs ≡ Ok ts → All (λ t. t < threads) ts
unfolding turns_of
turns_below threads [] ts e = subst (All (λ t. t < threads)) (is_ok [] ts e) (All-nil (λ t. t < threads))
turns_below threads (f ∷ fs) ts e =
    let b = bind_ok (turns_of threads f) (λ xs. turns_of_all threads fs >>= λ more. Ok (xs ++ more)) ts e in
    let d = bind_ok (turns_of_all threads fs) (λ more. Ok (b.0 ++ more)) ts b.2 in
    subst (All (λ t. t < threads)) (is_ok (b.0 ++ d.0) ts d.2)
    (All-append (λ t. t < threads) b.0 d.0 (parts_below threads (slice_split (λ c. eqb c 42) f) b.0 b.1) (turns_below threads fs d.0 d.1))
