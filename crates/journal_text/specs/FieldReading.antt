-- What one field of a journal says. Each reader is the inverse of the text that stands beside it.
use Rattle.std.specs.Prelude.{◌≡◌, ℕ, ℤ, pos, negsuc, zero, suc, ◌-◌, ◌^◌, Bool, true, false, ◌&&◌, ◌||◌, not, List, [], ◌∷◌, length, drop, take, Option, Some, None, option_map, option_and_then, if◌then◌else◌, nat_lt, nat_le, ◌==◌, bytes_eq, codes}
use Rattle.std.specs.Char.{digit_value}
use Rattle.std.specs.List.{list_all}
use Rattle.std.specs.Str.Parse.{digits_value, digits_value_after}
use Rattle.heap_terms.specs.declared.cells.Cell.{Cell}
use Rattle.heap_terms.specs.declared.cells.Cell.TheVariants as cells
use Rattle.heap_terms.specs.declared.cells.Raw.{Raw}
use Rattle.heap_terms.specs.declared.cells.Value.{Value}
use Rattle.heap_terms.specs.declared.cells.Value.TheVariants as values
use Rattle.heap_terms.specs.declared.kinds.PageType.{PageType}
use Rattle.heap_terms.specs.declared.kinds.PageType.TheVariants as types
use Rattle.heap_terms.specs.declared.kinds.Weakness.{Weakness}
use Rattle.heap_terms.specs.declared.kinds.Weakness.TheVariants as weaknesses

abbrev pub starts_with_zero : List ℕ → Bool
starts_with_zero [] = false
starts_with_zero (b ∷ digits) = b == 48

abbrev pub has_more : List ℕ → Bool
has_more [] = false
has_more (b ∷ digits) = true

abbrev pub has_two : List ℕ → Bool
has_two [] = false
has_two (b ∷ digits) = has_more digits

-- no digit, or a zero before another digit
abbrev pub is_loose : List ℕ → Bool
is_loose digits = not (has_more digits) || (starts_with_zero digits && has_two digits)

-- the value of digits in a base, below 2^64
unfoldable pub value_in : ℕ → (ℕ → Bool) → List ℕ → Option ℕ
value_in base is_one digits = if list_all is_one digits && nat_lt (digits_value base digits) (2 ^ 64) then Some (digits_value base digits) else None

-- the same of the digits that are left, where others of this value stood before them
unfoldable pub value_on : ℕ → (ℕ → Bool) → ℕ → List ℕ → Option ℕ
value_on base is_one value digits = if list_all is_one digits && nat_lt (digits_value_after base value digits) (2 ^ 64) then Some (digits_value_after base value digits) else None

-- what a reader of one digit answers
abbrev pub Digit : (ℕ → Bool) → ℕ → Option ℕ → Type 0
Digit is_one byte None = is_one byte ≡ false
Digit is_one byte (Some d) = (is_one byte ≡ true) × (d ≡ digit_value byte)

abbrev pub is_decimal : ℕ → Bool
is_decimal b = nat_le 48 b && nat_le b 57

-- a hexadecimal digit, of lower case
abbrev pub is_hex : ℕ → Bool
is_hex b = is_decimal b || (nat_le 97 b && nat_le b 102)

abbrev pub at_most : ℕ → ℕ → Option ℕ
at_most most n = if nat_le n most then Some n else None

-- a number up to the most, with no leading zero
unfoldable pub a_number : ℕ → List ℕ → Option ℕ
a_number most digits = if is_loose digits then None else option_and_then (at_most most) (value_in 10 is_decimal digits)

abbrev pub negative : ℕ → Option ℤ
negative zero = None
negative (suc n) = Some (negsuc n)

-- a number from -most to most - 1; `-0` is none
unfoldable pub a_signed : ℕ → List ℕ → Option ℤ
a_signed most [] = None
a_signed most (b ∷ digits) =
    if b == 45 then option_and_then negative (a_number most digits) else option_map pos (a_number (most - 1) (b ∷ digits))

-- what stands behind a letter
abbrev pub behind : {A : Type 0} → ℕ → (List ℕ → Option A) → List ℕ → Option A
behind letter reads [] = None
behind letter reads (b ∷ rest) = if b == letter then reads rest else None

unfoldable pub a_cell : List ℕ → Option Cell
a_cell [] = None
a_cell (b ∷ digits) =
    if b == 115 then option_map cells.Stack (a_number 15 digits)
    else if b == 98 then option_map cells.Exact (a_number 15 digits)
    else if b == 103 then option_map cells.Shared (a_number 15 digits)
    else None

abbrev pub raw : ℕ → Raw
raw n = record { 0 = n }

unfoldable pub a_raw : List ℕ → Option Raw
a_raw field = option_map raw (behind 114 (a_number 7) field)

-- a raw word: `0x` and 16 digits
unfoldable pub a_word : List ℕ → Option ℕ
a_word field = if length field == 18 && bytes_eq (take 2 field) (codes "0x") then value_in 16 is_hex (drop 2 field) else None

-- `#` and a name, `@` and an index, `g` and a generation
unfoldable pub a_name : List ℕ → Option ℕ
a_name field = behind 35 (a_number 19999) field

unfoldable pub an_index : List ℕ → Option ℕ
an_index field = behind 64 (a_number 524287) field

unfoldable pub a_generation : List ℕ → Option ℕ
a_generation field = behind 103 (a_number 5) field

unfoldable pub a_fixnum : List ℕ → Option ℤ
a_fixnum field = a_signed (2 ^ 62) field

-- a value: `nil`, a name, or a number
unfoldable pub a_value : List ℕ → Option Value
a_value [] = None
a_value (b ∷ rest) =
    if b == 35 then option_map values.Ref (a_number 19999 rest)
    else if bytes_eq (b ∷ rest) (codes "nil") then Some values.Nil
    else option_map values.Fix (a_fixnum (b ∷ rest))

unfoldable pub a_mixed_weakness : List ℕ → Option Weakness
a_mixed_weakness field =
    if bytes_eq field (codes "key-and-value") then Some weaknesses.KeyAndValue
    else if bytes_eq field (codes "key-or-value") then Some weaknesses.KeyOrValue
    else None

unfoldable pub a_weakness : List ℕ → Option Weakness
a_weakness field =
    if bytes_eq field (codes "strong") then Some weaknesses.Strong
    else if bytes_eq field (codes "key") then Some weaknesses.Key
    else if bytes_eq field (codes "value") then Some weaknesses.Value
    else a_mixed_weakness field

unfoldable pub a_type : List ℕ → Option PageType
a_type field =
    if bytes_eq field (codes "cons") then Some types.Cons
    else if bytes_eq field (codes "boxed") then Some types.Boxed
    else if bytes_eq field (codes "unboxed") then Some types.Unboxed
    else None
