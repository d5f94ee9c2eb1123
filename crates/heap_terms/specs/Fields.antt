-- The lines of a script, the fields of a line, and what one field says. The form is this project's own.
-- A line ends with LF; one CR directly before it is no part of the line, and the last line may lack the LF:
-- that is `lines` of std.
use Rattle.std.specs.Prelude.{ℕ, ℤ, pos, negsuc, neg_ℤ, ◌^◌, Bool, true, false, ◌&&◌, ◌||◌, not, List, [], ◌∷◌, length, drop, take, replicate, Option, Some, None, option_map, option_and_then, ok_or, Result, Ok, Err, if◌then◌else◌, nat_lt, nat_le, ◌==◌, filter, bytes_eq, slice_index, codes}
use Rattle.std.specs.Char.{is_digit}
use Rattle.std.specs.List.{list_all, slice_split}
use Rattle.std.specs.Str.Parse.{digits_value}
use Rattle.heap_terms.specs.declared.cells.Cell.{Cell}
use Rattle.heap_terms.specs.declared.cells.Cell.TheVariants.{Stack, Exact, Shared}
use Rattle.heap_terms.specs.declared.cells.Raw.{Raw}
use Rattle.heap_terms.specs.declared.faults.Why.{Why}
use Rattle.heap_terms.specs.declared.faults.Why.TheVariants.{Form, Range}
use Rattle.heap_terms.specs.declared.kinds.Weakness.{Weakness}
use Rattle.heap_terms.specs.declared.kinds.Weakness.TheVariants as weaknesses
use Rattle.heap_terms.specs.declared.limits.TheConstants.{CELLS, RAW_CELLS, LEAST_AUTO, MOST_AUTO, MOST_TURNS_IN_A_ROW}

-- what follows where reading did not fail
infixl 10 ◌>>=◌
abbrev pub ◌>>=◌ : {A B E : Type 0} → Result A E → (A → Result B E) → Result B E
(Ok x) >>= f = f x
(Err e) >>= f = Err e

-- blanks are space and tab
abbrev pub is_blank : ℕ → Bool
is_blank b = b == 32 || b == 9

abbrev pub has_bytes : List ℕ → Bool
has_bytes [] = false
has_bytes (b ∷ bs) = true

-- the fields of a line: what stands between blanks
unfoldable pub fields_in : List ℕ → List (List ℕ)
fields_in line = filter has_bytes (slice_split is_blank line)

-- so many digits in a base, from 1 to the most
abbrev pub is_numeral : ℕ → ℕ → List ℕ → Bool
is_numeral base most digits = nat_le 1 (length digits) && nat_le (length digits) most && list_all (λ c. is_digit c base) digits

-- the number of 1 to 20 decimal digits; leading zeros are digits as others
unfoldable pub number_of : List ℕ → Option ℕ
number_of digits = if is_numeral 10 20 digits then Some (digits_value 10 digits) else None

-- a number with an optional `-` before its digits; `-0` is 0
unfoldable pub signed_of : List ℕ → Option ℤ
signed_of [] = None
signed_of (b ∷ digits) = if b == 45 then option_map (λ n. neg_ℤ (pos n)) (number_of digits) else option_map pos (number_of (b ∷ digits))

-- a raw word: `0x` and 1 to 16 hexadecimal digits of either case
unfoldable pub raw_word_of : List ℕ → Option ℕ
raw_word_of field = if bytes_eq (take 2 field) (codes "0x") && is_numeral 16 16 (drop 2 field) then Some (digits_value 16 (drop 2 field)) else None

-- the number of a cell: below the limit, and with no leading zero
unfoldable pub cell_number : ℕ → List ℕ → Option ℕ
cell_number limit digits =
    option_and_then (λ n. if nat_lt n limit && (length digits == 1 || not (slice_index digits 0 == 48)) then Some n else None) (number_of digits)

-- a Lisp cell: `s`, `b` or `g`, and a number from 0 to 15
unfoldable pub cell_of : List ℕ → Option Cell
cell_of [] = None
cell_of (b ∷ digits) =
    if b == 115 then option_map Stack (cell_number CELLS digits)
    else if b == 98 then option_map Exact (cell_number CELLS digits)
    else if b == 103 then option_map Shared (cell_number CELLS digits)
    else None

-- a raw cell: `r` and a number from 0 to 7
unfoldable pub raw_cell_of : List ℕ → Option Raw
raw_cell_of [] = None
raw_cell_of (b ∷ digits) = if b == 114 then option_map (λ n. record { 0 = n }) (cell_number RAW_CELLS digits) else None

unfoldable pub weakness_named : List ℕ → Option Weakness
weakness_named field =
    if bytes_eq field (codes "strong") then Some weaknesses.Strong
    else if bytes_eq field (codes "key") then Some weaknesses.Key
    else if bytes_eq field (codes "value") then Some weaknesses.Value
    else if bytes_eq field (codes "key-and-value") then Some weaknesses.KeyAndValue
    else if bytes_eq field (codes "key-or-value") then Some weaknesses.KeyOrValue
    else None

-- a value that has its form, where it is in its range
abbrev pub ranged : {A : Type 0} → (A → Bool) → Option A → Result A Why
ranged test found = ok_or found Form >>= λ x. if test x then Ok x else Err Range

abbrev pub between : ℕ → ℕ → ℕ → Bool
between low high n = nat_le low n && nat_le n high

abbrev pub at_least : ℕ → ℕ → Bool
at_least low n = nat_le low n

abbrev pub at_most : ℕ → ℕ → Bool
at_most high n = nat_le n high

-- a fixnum is from -2^62 to 2^62 - 1
abbrev pub is_fixnum : ℤ → Bool
is_fixnum (pos n) = nat_lt n (2 ^ 62)
is_fixnum (negsuc n) = nat_lt n (2 ^ 62)

-- a signed number of 64 bits
abbrev pub is_i64 : ℤ → Bool
is_i64 (pos n) = nat_lt n (2 ^ 63)
is_i64 (negsuc n) = nat_lt n (2 ^ 63)

-- so many words between two collections, or 0 for none
abbrev pub is_auto : ℕ → Bool
is_auto n = n == 0 || between LEAST_AUTO MOST_AUTO n

-- A field of a schedule is a thread's number, or that, `*` and how many turns in a row it has, from 1 to 65,535.
-- The form of both numbers is judged before the range of either.
abbrev pub turns_of_parts : ℕ → List (List ℕ) → Result (List ℕ) Why
turns_of_parts threads (thread ∷ []) = ranged (λ t. nat_lt t threads) (number_of thread) >>= λ t. Ok (t ∷ [])
turns_of_parts threads (thread ∷ count ∷ []) =
    ok_or (number_of thread) Form >>= λ t. ok_or (number_of count) Form >>= λ k.
    if nat_lt t threads && between 1 MOST_TURNS_IN_A_ROW k then Ok (replicate k t) else Err Range
turns_of_parts threads [] = Err Form
turns_of_parts threads (thread ∷ count ∷ more ∷ parts) = Err Form

unfoldable pub turns_of : ℕ → List ℕ → Result (List ℕ) Why
turns_of threads field = turns_of_parts threads (slice_split (λ b. b == 42) field)
