-- Numbers in their usual spelling.
use Rattle.std.proofs.Common.{◌≡◌, ℕ, ℤ, pos, negsuc, zero, suc, ◌+◌, ◌-◌, ◌*◌, ◌^◌, ◌<◌, ◌≤◌, Bool, true, false, cond, eqb, leb, ltb, ◌||◌, List, [], ◌∷◌, length, take, drop, get_or, Option, Some, None, Ok, Err, refl, sym, ap, ◌∙◌, arith}
use Rattle.std.specs.Prelude.{neg_ℤ}
use Rattle.std.specs.Char.{digit_value}
use Rattle.std.specs.List.{list_all}
use Rattle.std.specs.Str.Parse.{digits_value}
use Rattle.std.proofs.lemmas.Bool.{ne_eqb, le-leb, lt-ltb, ltb-true}
use Rattle.std.proofs.lemmas.Int.Digits.{digits_value_more}
use Rattle.std.proofs.lemmas.List.{length-take-le}
use Rattle.std.proofs.lemmas.Str.{digit_value_digit}
use Rattle.heap_terms.specs.Fields.{number_of, signed_of, ranged, is_fixnum, is_i64}
use Rattle.heap_terms.specs.declared.faults.Why.TheVariants.{Range}
use Rattle.script_text.specs.Commands.{Reads, an_index, a_fixnum, a_signed}
use Rattle.script_text.specs.Left.{ends_field, field_len, Taken}
use Rattle.script_text.specs.Values.{NumberAt}
use Rattle.script_text.proofs.Digits.{decimal_digit, all_digits_more}
use Rattle.script_text.proofs.Lines.{field_more, field_all, next-byte}
use Rattle.script_text.proofs.Spelled.{plain_end, digit_solid, solid_inside, behind_space, kind_taken}

-- what a loop over digits has read
pub record Read (bytes : List ℕ) (len value : ℕ) : Type 0 where
  pub within : len ≤ length bytes
  pub short : len ≤ 20
  pub digits : list_all decimal_digit (take len bytes) ≡ true
  pub says : value ≡ digits_value 10 (take len bytes)
  pub small : value < 1000000000000000000
  pub field : field_len bytes ≡ len + field_len (drop len bytes)

pub read_none : (bytes : List ℕ) → Read bytes 0 0
read_none bytes = record { within = omega arith; short = omega arith; digits = refl; says = refl; small = omega arith; field = omega arith }

-- one more digit
pub read_more : (bytes : List ℕ) (len value : ℕ) → len < length bytes → len < 20 → value < 100000000000000000 →
    48 ≤ get_or bytes len 0 → get_or bytes len 0 ≤ 57 → Read bytes len value → Read bytes (len + 1) (value * 10 + (get_or bytes len 0 - 48))
read_more bytes len value lt short small low high r =
    let digit : digit_value (get_or bytes len 0) + 48 ≡ get_or bytes len 0 = digit_value_digit (get_or bytes len 0) (low, high) in
    let more = digits_value_more 10 bytes len lt in
    let inside : ends_field (drop len bytes) ≡ false = rw (next-byte bytes len lt) (solid_inside (get_or bytes len 0) (drop (len + 1) bytes) (digit_solid (get_or bytes len 0) low)) in
    record {
      within = omega arith;
      short = omega arith;
      digits = all_digits_more bytes len lt low high r.digits;
      says = omega (arith, digit, more, r.says);
      small = omega arith;
      field = field_more bytes len lt inside r.field;
    }

-- where the digits end before a space or an LF
pub number_at : (bytes after : List ℕ) (len value : ℕ) → len < length bytes → 0 < len → (eqb (get_or bytes len 0) 32 || eqb (get_or bytes len 0) 10) ≡ true →
    after ≡ drop len bytes → Read bytes len value → NumberAt bytes value after
unfolding number_of
number_at bytes after len value lt some ends rest r =
    let at_end : ends_field (drop len bytes) ≡ true = rw (next-byte bytes len lt) (plain_end (get_or bytes len 0) (drop (len + 1) bytes) ends) in
    let count : length (take len bytes) ≡ len = length-take-le len bytes (omega arith) in
    let least : leb 1 (length (take len bytes)) ≡ true = le-leb 1 (length (take len bytes)) (omega arith) in
    let most : leb (length (take len bytes)) 20 ≡ true = le-leb (length (take len bytes)) 20 (omega (arith, r.short)) in
    record {
      len = len;
      some = some;
      field = field_all bytes len at_end r.field;
      says = rw (least, most, r.digits, ← r.says) refl;
      small = r.small;
      rest = rest;
    }

-- a number behind one space
number_taken : (rest digits after : List ℕ) (v : ℕ) → 1 ≤ length rest → get_or rest 0 0 ≡ 32 → digits ≡ drop 1 rest → (n : NumberAt digits v after) → Taken rest (take n.len digits) after
number_taken [] digits after v long space e n = absurd (omega arith)
number_taken (b ∷ rest) digits after v long space e n = at n.len n.some n.field n.rest
  where
    at : (len : ℕ) → 0 < len → len ≡ field_len digits → after ≡ drop len digits → Taken (b ∷ rest) (take len digits) after
    at zero some field back = absurd (omega arith)
    at (suc k) some field back = rw (space, back, e) (behind_space rest k (ap field_len (sym e) ∙ sym field))

pub index_read : (rest digits after : List ℕ) (v : ℕ) → 1 ≤ length rest → get_or rest 0 0 ≡ 32 → digits ≡ drop 1 rest → v ≤ 65535 → NumberAt digits v after → Reads an_index rest v after
index_read rest digits after v long space e most n =
    let test : leb v 65535 ≡ true = le-leb v 65535 most in
    record { field = take n.len digits; says = rw (n.says, test) refl; taken = number_taken rest digits after v long space e n }

-- what digits say as a signed number, without a sign and behind one
unsigned : (digits : List ℕ) (len v : ℕ) → 0 < len → (get_or digits 0 0 ≡ 45 → ⊥) → number_of (take len digits) ≡ Some v → signed_of (take len digits) ≡ Some (pos v)
unfolding signed_of number_of
unsigned digits zero v some other says = absurd (omega arith)
unsigned [] (suc k) v some other says = absurd cc
unsigned (b ∷ digits) (suc k) v some other says = rw (ne_eqb b 45 other, says) refl

signed : (digits : List ℕ) (v : ℕ) → number_of digits ≡ Some v → signed_of (45 ∷ digits) ≡ Some (neg_ℤ (pos v))
unfolding signed_of
signed digits v says = rw says refl

fixnum_below : (v : ℕ) → v < 1000000000000000000 → is_fixnum (neg_ℤ (pos v)) ≡ true
fixnum_below zero small = refl
fixnum_below (suc k) small = lt-ltb k (2 ^ 62) (omega arith)

pub fixnum_read : (rest digits after : List ℕ) (v : ℕ) → 2 ≤ length rest → get_or rest 0 0 ≡ 32 → (get_or rest 1 0 ≡ 45 → ⊥) → digits ≡ drop 1 rest → NumberAt digits v after → Reads a_fixnum rest (pos v) after
fixnum_read rest digits after v long space other e n =
    let below : ltb v (2 ^ 62) ≡ true = lt-ltb v (2 ^ 62) (omega (arith, n.small)) in
    record { field = take n.len digits; says = rw (unsigned digits n.len v n.some (λ minus. other (second rest long (sym (ap (λ (xs : List ℕ). get_or xs 0 0) e) ∙ minus))) n.says, below) refl; taken = number_taken rest digits after v (omega arith) space e n }
  where
    second : (xs : List ℕ) → 2 ≤ length xs → get_or (drop 1 xs) 0 0 ≡ 45 → get_or xs 1 0 ≡ 45
    second [] h e = absurd (omega arith)
    second (x ∷ []) h e = absurd (omega arith)
    second (x ∷ y ∷ xs) h e = e

pub fixnum_read_signed : (rest digits after : List ℕ) (v : ℕ) → 2 ≤ length rest → get_or rest 0 0 ≡ 32 → get_or rest 1 0 ≡ 45 → digits ≡ drop 2 rest → NumberAt digits v after → Reads a_fixnum rest (neg_ℤ (pos v)) after
fixnum_read_signed rest digits after v long space minus e n =
    record {
      field = 45 ∷ take n.len digits;
      says = rw (signed (take n.len digits) v n.says, fixnum_below v n.small) refl;
      taken = rw (n.rest, e) (kind_taken rest 45 n.len long space minus (record { blank = refl; lf = refl; cr = refl }) (n.field ∙ ap field_len e));
    }

-- a fixnum is a signed number of 64 bits
fits : (z : ℤ) → is_fixnum z ≡ true → is_i64 z ≡ true
fits (pos n) h = let low : n < 2 ^ 62 = ltb-true n (2 ^ 62) h in lt-ltb n (2 ^ 63) (omega arith)
fits (negsuc n) h = let low : n < 2 ^ 62 = ltb-true n (2 ^ 62) h in lt-ltb n (2 ^ 63) (omega arith)

signed_ok : (found : Option ℤ) (z : ℤ) → ranged is_fixnum found ≡ Ok z → ranged is_i64 found ≡ Ok z
signed_ok None z e = absurd cc
signed_ok (Some y) z e = at (is_fixnum y) (λ h. fits y h) e
  where
    at : (b : Bool) → (b ≡ true → is_i64 y ≡ true) → cond b (Ok y) (Err Range) ≡ Ok z → cond (is_i64 y) (Ok y) (Err Range) ≡ Ok z
    at true h e = rw (h refl) e
    at false h e = absurd cc

pub signed_read : (rest after : List ℕ) (z : ℤ) → Reads a_fixnum rest z after → Reads a_signed rest z after
signed_read rest after z r = record { field = r.field; says = signed_ok (signed_of r.field) z r.says; taken = r.taken }
