-- Fields in their usual spelling.
use Rattle.std.proofs.Common.{◌≡◌, ℕ, ◌+◌, ◌-◌, ◌*◌, ◌≤◌, ◌<◌, suc, true, false, eqb, ltb, ◌||◌, List, [], ◌∷◌, ◌++◌, nat_lt, length, take, drop, get_or, Some, Ok, refl, sym, ap, ◌∙◌, subst, arith, append_assoc, inl, inr}
use Rattle.std.specs.Char.{is_digit, digit_value}
use Rattle.std.proofs.lemmas.Bool.{ne_eqb, or_cases, and_parts, eqb-true, ltb-true, lt-ltb}
use Rattle.std.proofs.lemmas.List.{take_at, drop_at, take-append-drop, length-take-le}
use Rattle.std.specs.List.{list_all}
use Rattle.std.proofs.lemmas.Str.{digit_value_digit}
use Rattle.heap_terms.specs.declared.cells.Cell.{Cell}
use Rattle.heap_terms.specs.declared.cells.Cell.TheVariants.{Stack, Exact, Shared}
use Rattle.heap_terms.specs.Fields.{fields_in, is_blank, number_of, cell_number, cell_of, raw_cell_of, turns_of}
use Rattle.script_text.specs.Commands.{Reads, a_cell, a_raw_cell}
use Rattle.script_text.specs.Left.{ends_field, field_len, fields_left, Taken, IsSolidWord, IsSpelled}
use Rattle.script_text.proofs.Digits.{digit_yes}
use Rattle.script_text.proofs.Lines.{lines-lf, SameLeft-blank, Taken-field, field_len-none, field_len-cons}

-- a byte that is no blank, LF or CR
pub record IsSolid (b : ℕ) : Type 0 where
  pub blank : is_blank b ≡ false
  pub lf : eqb b 10 ≡ false
  pub cr : eqb b 13 ≡ false

pub solid_inside : (b : ℕ) (bytes : List ℕ) → IsSolid b → ends_field (b ∷ bytes) ≡ false
solid_inside b bytes s = rw (s.blank, s.lf, s.cr) refl

pub digit_solid : (b : ℕ) → 48 ≤ b → IsSolid b
digit_solid b low =
    let space : eqb b 32 ≡ false = ne_eqb b 32 (λ (e : b ≡ 32). omega arith) in
    let tab : eqb b 9 ≡ false = ne_eqb b 9 (λ (e : b ≡ 9). omega arith) in
    record { blank = rw (space, tab) refl; lf = ne_eqb b 10 (λ (e : b ≡ 10). omega arith); cr = ne_eqb b 13 (λ (e : b ≡ 13). omega arith) }

pub plain_end : (b : ℕ) (bytes : List ℕ) → (eqb b 32 || eqb b 10) ≡ true → ends_field (b ∷ bytes) ≡ true
plain_end b bytes h = elim (or_cases (eqb b 32) (eqb b 10) h) [ inl space ↦ rw (eqb-true b 32 space) refl | inr lf ↦ rw (eqb-true b 10 lf) refl ]

-- ---- how long a field is

len_one : (a b : ℕ) (bytes : List ℕ) → IsSolid a → (eqb b 32 || eqb b 10) ≡ true → field_len (a ∷ b ∷ bytes) ≡ 1
len_one a b bytes s h = field_len-cons a (b ∷ bytes) (solid_inside a (b ∷ bytes) s) ∙ ap suc (field_len-none (b ∷ bytes) (plain_end b bytes h))

len_two : (a b c : ℕ) (bytes : List ℕ) → IsSolid a → IsSolid b → (eqb c 32 || eqb c 10) ≡ true → field_len (a ∷ b ∷ c ∷ bytes) ≡ 2
len_two a b c bytes s t h = field_len-cons a (b ∷ c ∷ bytes) (solid_inside a (b ∷ c ∷ bytes) s) ∙ ap suc (len_one b c bytes t h)

first_two : (bytes : List ℕ) → 2 ≤ length bytes → bytes ≡ get_or bytes 0 0 ∷ get_or bytes 1 0 ∷ drop 2 bytes
first_two [] h = absurd (omega arith)
first_two (a ∷ []) h = absurd (omega arith)
first_two (a ∷ b ∷ bytes) h = refl

first_three : (bytes : List ℕ) → 3 ≤ length bytes → bytes ≡ get_or bytes 0 0 ∷ get_or bytes 1 0 ∷ get_or bytes 2 0 ∷ drop 3 bytes
first_three [] h = absurd (omega arith)
first_three (a ∷ []) h = absurd (omega arith)
first_three (a ∷ b ∷ []) h = absurd (omega arith)
first_three (a ∷ b ∷ c ∷ bytes) h = refl

-- ---- a word before a space

high_solid : (b : ℕ) → 32 < b → IsSolid b
high_solid b high =
    let space : eqb b 32 ≡ false = ne_eqb b 32 (λ (e : b ≡ 32). omega arith) in
    let tab : eqb b 9 ≡ false = ne_eqb b 9 (λ (e : b ≡ 9). omega arith) in
    record { blank = rw (space, tab) refl; lf = ne_eqb b 10 (λ (e : b ≡ 10). omega arith); cr = ne_eqb b 13 (λ (e : b ≡ 13). omega arith) }

word_len : (word more : List ℕ) → list_all (λ b. nat_lt 32 b) word ≡ true → field_len (word ++ 32 ∷ more) ≡ length word
word_len [] more h = field_len-none (32 ∷ more) refl
word_len (b ∷ word) more h =
    let p = and_parts (nat_lt 32 b) (list_all (λ k. nat_lt 32 k) word) h in
    field_len-cons b (word ++ 32 ∷ more) (solid_inside b (word ++ 32 ∷ more) (high_solid b (ltb-true 32 b p.0))) ∙ ap suc (word_len word more p.1)

before_space : (word more : List ℕ) → IsSolidWord word → Taken (word ++ 32 ∷ more) word (32 ∷ more)
before_space [] more h = absurd (omega (arith, h.0))
before_space (w ∷ ws) more h =
    let len : field_len (w ∷ ws ++ 32 ∷ more) ≡ suc (length ws) = word_len (w ∷ ws) more h.1 in
    let t = Taken-field (w ∷ ws ++ 32 ∷ more) (length ws) len in
    subst (λ (field : List ℕ). Taken (w ∷ ws ++ 32 ∷ more) field (32 ∷ more)) (take_at (w ∷ ws) (32 ∷ more) (suc (length ws)) refl)
    (subst (λ (after : List ℕ). Taken (w ∷ ws ++ 32 ∷ more) (take (suc (length ws)) (w ∷ ws ++ 32 ∷ more)) after) (drop_at (w ∷ ws) (32 ∷ more) (suc (length ws)) refl) t)

-- what stands at the front is a word with its space, of so many bytes with it
pub spelled_taken : (rest spelled after : List ℕ) (n : ℕ) → IsSpelled spelled → n ≡ length spelled → take (length spelled) rest ≡ spelled →
    after ≡ drop (n - 1) rest → Taken rest (take (n - 1) spelled) after
spelled_taken rest spelled after n s len same behind =
    let k = n - 1 in
    let word = take k spelled in
    let more = drop (length spelled) rest in
    let cut : length spelled - 1 ≡ k = omega (arith, len) in
    let solid : IsSolidWord word = subst (λ (i : ℕ). IsSolidWord (take i spelled)) cut s.0 in
    let space : drop k spelled ≡ 32 ∷ [] = ap (λ (i : ℕ). drop i spelled) (sym cut) ∙ s.1 in
    let whole : spelled ≡ word ++ 32 ∷ [] = sym (take-append-drop k spelled) ∙ ap (λ (t : List ℕ). word ++ t) space in
    let parts : rest ≡ word ++ 32 ∷ more =
    sym (take-append-drop (length spelled) rest) ∙ ap (λ (t : List ℕ). t ++ more) (same ∙ whole) ∙ append_assoc word (32 ∷ []) more in
    let count : length word ≡ k = length-take-le k spelled (omega (arith, len)) in
    let back : after ≡ 32 ∷ more = behind ∙ ap (drop k) parts ∙ drop_at word (32 ∷ more) k count in
    rw (parts, back) (before_space word more solid)

-- ---- what the digits say

digit_is : (b : ℕ) → 48 ≤ b → b ≤ 57 → digit_value b ≡ b - 48
digit_is b low high = let e : digit_value b + 48 ≡ b = digit_value_digit b (low, high) in omega arith

number_one : (b : ℕ) → 48 ≤ b → b ≤ 57 → number_of (b ∷ []) ≡ Some (b - 48)
unfolding number_of
number_one b low high =
    let d : is_digit b 10 ≡ true = digit_yes b low high in
    let v : 0 * 10 + digit_value b ≡ b - 48 = omega (arith, digit_is b low high) in
    rw (d, v) refl

number_two : (b : ℕ) → 48 ≤ b → b ≤ 57 → number_of (49 ∷ b ∷ []) ≡ Some (b - 48 + 10)
unfolding number_of
number_two b low high =
    let d : is_digit b 10 ≡ true = digit_yes b low high in
    let v : 1 * 10 + digit_value b ≡ b - 48 + 10 = omega (arith, digit_is b low high) in
    rw (d, v) refl

cell_one : (b : ℕ) → 48 ≤ b → b ≤ 57 → cell_number 16 (b ∷ []) ≡ Some (b - 48)
unfolding cell_number
cell_one b low high =
    let below : ltb (b - 48) 16 ≡ true = lt-ltb (b - 48) 16 (omega arith) in
    rw (number_one b low high, below) refl

cell_two : (b : ℕ) → 48 ≤ b → b ≤ 53 → cell_number 16 (49 ∷ b ∷ []) ≡ Some (b - 48 + 10)
unfolding cell_number
cell_two b low high =
    let below : ltb (b - 48 + 10) 16 ≡ true = lt-ltb (b - 48 + 10) 16 (omega arith) in
    rw (number_two b low (omega arith), below) refl

raw_cell_one : (b : ℕ) → 48 ≤ b → b ≤ 55 → cell_number 8 (b ∷ []) ≡ Some (b - 48)
unfolding cell_number
raw_cell_one b low high =
    let below : ltb (b - 48) 8 ≡ true = lt-ltb (b - 48) 8 (omega arith) in
    rw (number_one b low (omega arith), below) refl

-- ---- plain fields

pub plain_one : (bytes : List ℕ) → 3 ≤ length bytes → 48 ≤ get_or bytes 0 0 → get_or bytes 0 0 ≤ 57 → (eqb (get_or bytes 1 0) 32 || eqb (get_or bytes 1 0) 10) ≡ true
    → (1 ≡ field_len bytes) × (cell_number 16 (take 1 bytes) ≡ Some (get_or bytes 0 0 - 48))
plain_one [] long low high ends = absurd (omega arith)
plain_one (a ∷ []) long low high ends = absurd (omega arith)
plain_one (a ∷ b ∷ bytes) long low high ends = (sym (len_one a b bytes (digit_solid a low) ends), cell_one a low high)

pub plain_two : (bytes : List ℕ) → 3 ≤ length bytes → get_or bytes 0 0 ≡ 49 → 48 ≤ get_or bytes 1 0 → get_or bytes 1 0 ≤ 53 → (eqb (get_or bytes 2 0) 32 || eqb (get_or bytes 2 0) 10) ≡ true
    → (2 ≡ field_len bytes) × (cell_number 16 (take 2 bytes) ≡ Some (get_or bytes 1 0 - 48 + 10))
plain_two [] long one low high ends = absurd (omega arith)
plain_two (a ∷ []) long one low high ends = absurd (omega arith)
plain_two (a ∷ b ∷ []) long one low high ends = absurd (omega arith)
plain_two (a ∷ b ∷ c ∷ bytes) long one low high ends =
    (sym (len_two a b c bytes (digit_solid a (omega arith)) (digit_solid b low) ends), ap (λ (x : ℕ). cell_number 16 (x ∷ b ∷ [])) one ∙ cell_two b low high)

-- a field behind one space
pub behind_space : (bytes : List ℕ) (n : ℕ) → field_len bytes ≡ suc n → Taken (32 ∷ bytes) (take (suc n) bytes) (drop (suc n) bytes)
behind_space bytes n len =
    let same = SameLeft-blank 32 bytes refl in
    let t = Taken-field bytes n len in
    record { fields = sym same.fields ∙ t.fields; lines = t.lines ∙ same.lines }

pub kind_taken : (bytes : List ℕ) (kind n : ℕ) → 2 ≤ length bytes → get_or bytes 0 0 ≡ 32 → get_or bytes 1 0 ≡ kind → IsSolid kind → n ≡ field_len (drop 2 bytes)
    → Taken bytes (kind ∷ take n (drop 2 bytes)) (drop n (drop 2 bytes))
kind_taken [] kind n long space k solid len = absurd (omega arith)
kind_taken (a ∷ []) kind n long space k solid len = absurd (omega arith)
kind_taken (a ∷ b ∷ bytes) kind n long space k solid len =
    let whole : field_len (kind ∷ bytes) ≡ suc n = field_len-cons kind bytes (solid_inside kind bytes solid) ∙ ap suc (sym len) in
    rw (space, k) (behind_space (kind ∷ bytes) n whole)

-- a cell in its usual spelling
pub plain_stack : (bytes after : List ℕ) (m n : ℕ) → 2 ≤ length bytes → get_or bytes 0 0 ≡ 32 → get_or bytes 1 0 ≡ 115 → n ≡ field_len (drop 2 bytes) → cell_number 16 (take n (drop 2 bytes)) ≡ Some m → after ≡ drop n (drop 2 bytes)
    → (field : List ℕ) × (cell_of field ≡ Some (Stack m)) × Taken bytes field after
unfolding cell_of
plain_stack bytes after m n long space kind len number rest =
    (115 ∷ take n (drop 2 bytes), rw number refl, rw rest (kind_taken bytes 115 n long space kind (record { blank = refl; lf = refl; cr = refl }) len))

pub plain_exact : (bytes after : List ℕ) (m n : ℕ) → 2 ≤ length bytes → get_or bytes 0 0 ≡ 32 → get_or bytes 1 0 ≡ 98 → n ≡ field_len (drop 2 bytes) → cell_number 16 (take n (drop 2 bytes)) ≡ Some m → after ≡ drop n (drop 2 bytes)
    → (field : List ℕ) × (cell_of field ≡ Some (Exact m)) × Taken bytes field after
unfolding cell_of
plain_exact bytes after m n long space kind len number rest =
    (98 ∷ take n (drop 2 bytes), rw number refl, rw rest (kind_taken bytes 98 n long space kind (record { blank = refl; lf = refl; cr = refl }) len))

pub plain_shared : (bytes after : List ℕ) (m n : ℕ) → 2 ≤ length bytes → get_or bytes 0 0 ≡ 32 → get_or bytes 1 0 ≡ 103 → n ≡ field_len (drop 2 bytes) → cell_number 16 (take n (drop 2 bytes)) ≡ Some m → after ≡ drop n (drop 2 bytes)
    → (field : List ℕ) × (cell_of field ≡ Some (Shared m)) × Taken bytes field after
unfolding cell_of
plain_shared bytes after m n long space kind len number rest =
    (103 ∷ take n (drop 2 bytes), rw number refl, rw rest (kind_taken bytes 103 n long space kind (record { blank = refl; lf = refl; cr = refl }) len))

pub digit_taken : (bytes : List ℕ) → 3 ≤ length bytes → get_or bytes 0 0 ≡ 32 → 48 ≤ get_or bytes 1 0 → (eqb (get_or bytes 2 0) 32 || eqb (get_or bytes 2 0) 10) ≡ true
    → Taken bytes ((get_or bytes 1 0 - 48 + 48) ∷ []) (drop 2 bytes)
digit_taken [] long space low ends = absurd (omega arith)
digit_taken (a ∷ []) long space low ends = absurd (omega arith)
digit_taken (a ∷ b ∷ []) long space low ends = absurd (omega arith)
digit_taken (a ∷ b ∷ c ∷ bytes) long space low ends =
    let same : b - 48 + 48 ≡ b = omega arith in
    rw (same, space) (behind_space (b ∷ c ∷ bytes) 0 (len_one b c bytes (digit_solid b low) ends))

-- ---- what a digit says

pub digit_turn : (threads d : ℕ) → d < 10 → d < threads → turns_of threads ((d + 48) ∷ []) ≡ Ok (d ∷ [])
unfolding turns_of
digit_turn threads d small lt =
    let n : number_of ((d + 48) ∷ []) ≡ Some d = number_one (d + 48) (omega arith) (omega arith) ∙ ap (λ (x : ℕ). Some x) (omega arith) in
    let star : eqb (d + 48) 42 ≡ false = ne_eqb (d + 48) 42 (λ (e : d + 48 ≡ 42). omega arith) in
    let below : ltb d threads ≡ true = lt-ltb d threads lt in
    rw (star, n, below) refl

-- what stands behind a cell's kind
abbrev pub Behind : List ℕ → ℕ → List ℕ → Type 0
Behind digits m after = (n : ℕ) × (n ≡ field_len digits) × (cell_number 16 (take n digits) ≡ Some m) × (after ≡ drop n digits)

-- a field that says a cell
cell_read : (bytes after : List ℕ) (c : Cell) → (field : List ℕ) × (cell_of field ≡ Some c) × Taken bytes field after → Reads a_cell bytes c after
cell_read bytes after c f = record { field = f.0; says = rw f.1 refl; taken = f.2 }

pub stack_at : (bytes digits after : List ℕ) (m : ℕ) → 2 ≤ length bytes → get_or bytes 0 0 ≡ 32 → get_or bytes 1 0 ≡ 115 → digits ≡ drop 2 bytes → Behind digits m after → Reads a_cell bytes (Stack m) after
stack_at bytes digits after m long space kind e b =
    let d = subst (λ (xs : List ℕ). Behind xs m after) e b in cell_read bytes after (Stack m) (plain_stack bytes after m d.0 long space kind d.1 d.2 d.3)

pub exact_at : (bytes digits after : List ℕ) (m : ℕ) → 2 ≤ length bytes → get_or bytes 0 0 ≡ 32 → get_or bytes 1 0 ≡ 98 → digits ≡ drop 2 bytes → Behind digits m after → Reads a_cell bytes (Exact m) after
exact_at bytes digits after m long space kind e b =
    let d = subst (λ (xs : List ℕ). Behind xs m after) e b in cell_read bytes after (Exact m) (plain_exact bytes after m d.0 long space kind d.1 d.2 d.3)

pub shared_at : (bytes digits after : List ℕ) (m : ℕ) → 2 ≤ length bytes → get_or bytes 0 0 ≡ 32 → get_or bytes 1 0 ≡ 103 → digits ≡ drop 2 bytes → Behind digits m after → Reads a_cell bytes (Shared m) after
shared_at bytes digits after m long space kind e b =
    let d = subst (λ (xs : List ℕ). Behind xs m after) e b in cell_read bytes after (Shared m) (plain_shared bytes after m d.0 long space kind d.1 d.2 d.3)

-- a raw cell in its usual spelling
raw_cell_says : (b : ℕ) → 48 ≤ b → b ≤ 55 → a_raw_cell (114 ∷ b ∷ []) ≡ Ok (record { 0 = b - 48 })
unfolding raw_cell_of
raw_cell_says b low high = rw (raw_cell_one b low high) refl

pub raw_at : (bytes after : List ℕ) → 4 ≤ length bytes → get_or bytes 0 0 ≡ 32 → get_or bytes 1 0 ≡ 114 → 48 ≤ get_or bytes 2 0 → get_or bytes 2 0 ≤ 55 →
    (eqb (get_or bytes 3 0) 32 || eqb (get_or bytes 3 0) 10) ≡ true → after ≡ drop 3 bytes → Reads a_raw_cell bytes (record { 0 = get_or bytes 2 0 - 48 }) after
raw_at [] after long space kind low high ends back = absurd (omega arith)
raw_at (a ∷ []) after long space kind low high ends back = absurd (omega arith)
raw_at (a ∷ b ∷ []) after long space kind low high ends back = absurd (omega arith)
raw_at (a ∷ b ∷ x ∷ []) after long space kind low high ends back = absurd (omega arith)
raw_at (a ∷ b ∷ x ∷ y ∷ bytes) after long space kind low high ends back = record {
  field = 114 ∷ x ∷ [];
  says = raw_cell_says x low high;
  taken = rw back (kind_taken (a ∷ b ∷ x ∷ y ∷ bytes) 114 1 (omega arith) space kind (record { blank = refl; lf = refl; cr = refl }) (sym (len_one x y bytes (digit_solid x low) ends)));
}

-- no field is left before an LF
pub lf_ends : (bytes : List ℕ) → 1 ≤ length bytes → get_or bytes 0 0 ≡ 10 → length (fields_left bytes) ≡ 0
unfolding fields_left fields_in
lf_ends [] long lf = absurd (omega arith)
lf_ends (b ∷ bytes) long lf = rw (lf, lines-lf bytes) refl
