-- Reading an answer: all the fields behind the arrow.
use Rattle.std.specs.Prelude.{◌≡◌, ℕ, ◌^◌, ◌-◌, Bool, false, ◌&&◌, List, [], ◌∷◌, ◌++◌, Option, Some, None, option_map, Result, Ok, Err, if◌then◌else◌, ◌==◌, nat_le, bytes_eq, codes}
use Rattle.heap_terms.specs.declared.answers.Answer.{Answer}
use Rattle.heap_terms.specs.declared.answers.Answer.TheVariants as answers
use Rattle.heap_terms.specs.declared.answers.Item.{Item}
use Rattle.heap_terms.specs.declared.answers.PageView.TheVariants as views
use Rattle.heap_terms.specs.declared.answers.Refusal.TheVariants as refusals
use Rattle.heap_terms.specs.declared.cells.Value.TheVariants as values
use Rattle.heap_terms.specs.declared.kinds.PageType.{PageType}
use Rattle.heap_terms.specs.declared.kinds.PageType.TheVariants as types
use Rattle.heap_terms.specs.Text.{refusal_text, type_text}
use Rattle.journal_text.specs.declared.parsing.faults.LineFault.{LineFault}
use Rattle.journal_text.specs.declared.parsing.faults.LineFault.TheVariants as faults
use Rattle.journal_text.specs.declared.parsing.openings.Opening.{Opening}
use Rattle.journal_text.specs.declared.parsing.openings.Opening.TheVariants as openings
use Rattle.journal_text.specs.declared.parsing.openings.Filling.{Filling}
use Rattle.journal_text.specs.declared.parsing.openings.Filling.TheVariants as fillings
use Rattle.journal_text.specs.FieldReading.{a_number, a_fixnum, a_word, a_name, an_index, a_value, a_generation}
use Rattle.journal_text.specs.LineReading.{◌>>=◌, first, a_number_32, a_count}

-- what a call that may want memory answers: what the reader says, unless memory ran out
abbrev pub Reads : {A : Type 0} → Option A → Result A LineFault → Type 0
Reads told (Ok x) = told ≡ Some x
Reads told (Err faults.Form) = told ≡ None
Reads told (Err faults.Memory) = Unit {0}

-- nothing is left
abbrev pub ending : {A : Type 0} → A → List (List ℕ) → Option A
ending x [] = Some x
ending x (field ∷ fields) = None

-- the word with which an answer begins
abbrev pub opening_text : Opening → List ℕ
opening_text openings.Done = codes "ok"
opening_text openings.Yes = codes "yes"
opening_text openings.No = codes "no"
opening_text openings.Absent = codes "none"
opening_text openings.Broken = codes "broken"
opening_text openings.Nil = codes "nil"
opening_text openings.Free = codes "free"
opening_text openings.Live = codes "live"
opening_text openings.Ran = codes "ran"
opening_text openings.Stat = codes "allocated"
opening_text (openings.Page ty) = type_text ty
opening_text (openings.Refused refusal) = refusal_text refusal

unfoldable pub a_long_opening : List ℕ → Option Opening
a_long_opening field =
    if bytes_eq field (codes "allocated") then Some openings.Stat
    else if bytes_eq field (codes "!exhausted") then Some (openings.Refused refusals.Exhausted)
    else None

unfoldable pub a_short_opening : List ℕ → Option Opening
a_short_opening field =
    if bytes_eq field (codes "ok") then Some openings.Done
    else if bytes_eq field (codes "yes") then Some openings.Yes
    else if bytes_eq field (codes "no") then Some openings.No
    else if bytes_eq field (codes "none") then Some openings.Absent
    else if bytes_eq field (codes "broken") then Some openings.Broken
    else if bytes_eq field (codes "nil") then Some openings.Nil
    else if bytes_eq field (codes "free") then Some openings.Free
    else if bytes_eq field (codes "live") then Some openings.Live
    else if bytes_eq field (codes "ran") then Some openings.Ran
    else if bytes_eq field (codes "cons") then Some (openings.Page types.Cons)
    else if bytes_eq field (codes "boxed") then Some (openings.Page types.Boxed)
    else if bytes_eq field (codes "unboxed") then Some (openings.Page types.Unboxed)
    else if bytes_eq field (codes "!type") then Some (openings.Refused refusals.NotType)
    else if bytes_eq field (codes "!range") then Some (openings.Refused refusals.OutOfRange)
    else if bytes_eq field (codes "!full") then Some (openings.Refused refusals.TableFull)
    else if bytes_eq field (codes "!empty") then Some (openings.Refused refusals.Nothing)
    else if bytes_eq field (codes "!pins") then Some (openings.Refused refusals.PinsFull)
    else None

abbrev pub or_else : {A : Type 0} → Option A → Option A → Option A
or_else None other = other
or_else (Some x) other = Some x

abbrev pub an_opening : List ℕ → Option Opening
an_opening field = or_else (a_short_opening field) (a_long_opening field)

abbrev pub a_number_64 : List ℕ → Option ℕ
a_number_64 field = a_number (2 ^ 64 - 1) field

-- what stands before a byte and what behind it
unfoldable pub cut_at : ℕ → List ℕ → Option (List ℕ × List ℕ)
cut_at c [] = None
cut_at c (b ∷ bytes) = if b == c then Some ([], bytes) else option_map (λ p. (b ∷ p.0, p.1)) (cut_at c bytes)

-- an item of a page: `#name@index` or `~count@index`
abbrev pub item_of : List ℕ → ℕ → Option Item
item_of [] index = None
item_of (b ∷ digits) index =
    if b == 35 then (a_number 19999 digits >>= λ name. Some (record { name = Some name; index = index; count = 0 }))
    else if b == 126 then (a_count 4294967295 digits >>= λ count. Some (record { name = None; index = index; count = count }))
    else None

unfoldable pub an_item : List ℕ → Option Item
an_item field = cut_at 64 field >>= λ parts. a_number 524287 parts.1 >>= λ index. item_of parts.0 index

-- the object of a large page: `#name@index`
unfoldable pub an_object : List ℕ → Option (ℕ × ℕ)
an_object field = cut_at 64 field >>= λ parts. a_name parts.0 >>= λ name. a_number 524287 parts.1 >>= λ index. Some (name, index)

-- what each of the fields says
unfoldable pub all_of : {A : Type 0} → (List ℕ → Option A) → List (List ℕ) → Option (List A)
all_of reads [] = Some []
all_of reads (field ∷ fields) = reads field >>= λ x. all_of reads fields >>= λ xs. Some (x ∷ xs)

-- what was read before it, and what was read now
abbrev pub with_front : {A : Type 0} → List A → Option (List A) → Option (List A)
with_front front None = None
with_front front (Some xs) = Some (front ++ xs)

-- a field that is this word
abbrev pub the_word : List ℕ → List ℕ → Option (Unit {0})
the_word word field = if bytes_eq field word then Some tt else None

unfoldable pub a_filling : List ℕ → Option Filling
a_filling field =
    if bytes_eq field (codes "fill") then Some fillings.Fill
    else if bytes_eq field (codes "large") then Some fillings.Large
    else None

abbrev pub filling_text : Filling → List ℕ
filling_text fillings.Fill = codes "fill"
filling_text fillings.Large = codes "large"

abbrev pub some_ran : List ℕ → Option Answer
some_ran [] = None
some_ran (id ∷ ids) = Some (answers.Ran (id ∷ ids))

unfoldable pub read_live : List (List ℕ) → Option Answer
read_live fields = first a_value fields >>= λ v. ending (answers.Live v.0) v.1

unfoldable pub read_ran : List (List ℕ) → Option Answer
read_ran fields = all_of a_number_32 fields >>= some_ran

-- three numbers with the words between them
abbrev pub three_numbers : List (List ℕ) → Option ((ℕ × ℕ × ℕ) × List (List ℕ))
three_numbers fields =
    first a_number_64 fields >>= λ allocated. first (the_word (codes "cum")) allocated.1 >>= λ w.
    first a_number_64 w.1 >>= λ cum. first (the_word (codes "num")) cum.1 >>= λ x.
    first a_number_32 x.1 >>= λ num. Some ((allocated.0, cum.0, num.0), num.1)

unfoldable pub read_stat : List (List ℕ) → Option Answer
read_stat fields = three_numbers fields >>= λ n. ending (answers.Stat n.0.0 n.0.1 n.0.2) n.1

unfoldable pub read_small : PageType → ℕ → List (List ℕ) → Option Answer
read_small ty g fields = first a_number_32 fields >>= λ fill. all_of an_item fill.1 >>= λ items. Some (answers.Page (views.Small ty g fill.0 items))

unfoldable pub read_large : PageType → ℕ → List (List ℕ) → Option Answer
read_large ty g fields =
    first a_number_32 fields >>= λ pages. first an_object pages.1 >>= λ o. ending (answers.Page (views.Large ty g pages.0 o.0.0 o.0.1)) o.1

abbrev pub read_filled : Filling → PageType → ℕ → List (List ℕ) → Option Answer
read_filled fillings.Fill ty g fields = read_small ty g fields
read_filled fillings.Large ty g fields = read_large ty g fields

unfoldable pub read_page : PageType → List (List ℕ) → Option Answer
read_page ty fields = first a_generation fields >>= λ g. first a_filling g.1 >>= λ w. read_filled w.0 ty g.0 w.1

unfoldable pub read_worded : Opening → List (List ℕ) → Option Answer
read_worded openings.Done fields = ending answers.Done fields
read_worded openings.Yes fields = ending answers.Yes fields
read_worded openings.No fields = ending answers.No fields
read_worded openings.Absent fields = ending answers.Absent fields
read_worded openings.Broken fields = ending answers.Broken fields
read_worded openings.Nil fields = ending (answers.Val values.Nil) fields
read_worded openings.Free fields = ending (answers.Page views.Free) fields
read_worded openings.Live fields = read_live fields
read_worded openings.Ran fields = read_ran fields
read_worded openings.Stat fields = read_stat fields
read_worded (openings.Page ty) fields = read_page ty fields
read_worded (openings.Refused refusal) fields = ending (answers.Refused refusal) fields

-- whether an `x` stands second, as in a raw word
abbrev pub second_is_x : List ℕ → Bool
second_is_x [] = false
second_is_x (b ∷ []) = false
second_is_x (b ∷ c ∷ rest) = c == 120

-- an answer that begins with a digit or a `-`
unfoldable pub read_numeric : Bool → List ℕ → List (List ℕ) → Option Answer
read_numeric counts field fields =
    if counts then (a_number_64 field >>= λ n. ending (answers.Count n) fields)
    else if second_is_x field then (a_word field >>= λ w. ending (answers.Word w) fields)
    else (a_fixnum field >>= λ z. ending (answers.Val (values.Fix z)) fields)

-- a name alone, or a name and where it is
abbrev pub placed : ℕ → List (List ℕ) → Option Answer
placed name [] = Some (answers.Val (values.Ref name))
placed name (field ∷ fields) = an_index field >>= λ index. ending (answers.Placed name index) fields

unfoldable pub read_named : List ℕ → List (List ℕ) → Option Answer
read_named field fields = a_name field >>= λ name. placed name fields

-- an answer that begins with a word
abbrev pub read_opened : List ℕ → List (List ℕ) → Option Answer
read_opened field fields = an_opening field >>= λ opening. read_worded opening fields

-- an answer, where it is told whether the command counts
unfoldable pub read_answer : Bool → List (List ℕ) → Option Answer
read_answer counts [] = None
read_answer counts ([] ∷ fields) = None
read_answer counts ((b ∷ rest) ∷ fields) =
    if nat_le 45 b && nat_le b 57 then read_numeric counts (b ∷ rest) fields
    else if b == 35 then read_named (b ∷ rest) fields
    else read_opened (b ∷ rest) fields
