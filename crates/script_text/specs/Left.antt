-- What the bytes that are not read yet say: the fields left of the line in which they begin, and the lines after it.
use Rattle.std.specs.Prelude.{◌≡◌, ℕ, suc, Bool, true, false, ◌&&◌, ◌||◌, ◌<◌, nat_lt, ◌-◌, length, take, drop, List, [], ◌∷◌, ◌==◌, if◌then◌else◌}
use Rattle.std.specs.List.{list_all}
use Rattle.std.specs.Str.Lines.{lines}
use Rattle.heap_terms.specs.Fields.{is_blank, fields_in}

abbrev pub first_or_empty : List (List ℕ) → List ℕ
first_or_empty [] = []
first_or_empty (line ∷ more) = line

abbrev pub all_but_first : List (List ℕ) → List (List ℕ)
all_but_first [] = []
all_but_first (line ∷ more) = more

unfoldable pub fields_left : List ℕ → List (List ℕ)
fields_left bytes = fields_in (first_or_empty (lines bytes))

unfoldable pub lines_after : List ℕ → List (List ℕ)
lines_after bytes = all_but_first (lines bytes)

-- both say the same
pub record SameLeft (old new : List ℕ) : Type 0 where
  pub fields : fields_left new ≡ fields_left old
  pub lines : lines_after new ≡ lines_after old

-- the first field of the line was taken
pub record Taken (old : List ℕ) (field : List ℕ) (new : List ℕ) : Type 0 where
  pub fields : fields_left old ≡ field ∷ fields_left new
  pub lines : lines_after new ≡ lines_after old

-- no field was left in the line
pub record NoneLeft (old new : List ℕ) : Type 0 where
  pub before : fields_left old ≡ []
  pub after : fields_left new ≡ []
  pub lines : lines_after new ≡ lines_after old

abbrev pub starts_with_blank : List ℕ → Bool
starts_with_blank [] = false
starts_with_blank (b ∷ bytes) = is_blank b

-- a word of bytes that are neither blanks nor ends of lines
abbrev pub IsSolidWord : List ℕ → Type 0
IsSolidWord word = (0 < length word) × (list_all (λ b. nat_lt 32 b) word ≡ true)

-- such a word with one space after it
abbrev pub IsSpelled : List ℕ → Type 0
IsSpelled spelled = IsSolidWord (take (length spelled - 1) spelled) × (drop (length spelled - 1) spelled ≡ 32 ∷ [])

abbrev pub starts_with_lf : List ℕ → Bool
starts_with_lf [] = false
starts_with_lf (b ∷ bytes) = b == 10

-- whether a field ends before these bytes: at their end, at a blank, at an LF or at a CR before an LF
abbrev pub ends_field : List ℕ → Bool
ends_field [] = true
ends_field (b ∷ bytes) = is_blank b || b == 10 || (b == 13 && starts_with_lf bytes)

-- how many bytes stand before the place where a field ends
unfoldable pub field_len : List ℕ → ℕ
field_len [] = 0
field_len (b ∷ bytes) = if ends_field (b ∷ bytes) then 0 else suc (field_len bytes)
