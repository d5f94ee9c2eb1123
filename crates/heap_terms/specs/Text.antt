-- The text of a journal. Each line ends with LF, its fields are separated by single spaces, and numbers have
-- no leading zeros. The form is this project's own.
use Rattle.std.specs.Prelude.{ℕ, zero, suc, ◌+◌, ◌/◌, ◌%◌, List, [], ◌∷◌, ◌++◌, length, flat_map, Option, Some, None, if◌then◌else◌, nat_lt, codes, decimal}
use Rattle.std.specs.Fmt.{signed_decimal}
use Rattle.heap_terms.specs.declared.answers.Answer.{Answer}
use Rattle.heap_terms.specs.declared.answers.Answer.TheVariants as answers
use Rattle.heap_terms.specs.declared.answers.Item.{Item}
use Rattle.heap_terms.specs.declared.answers.PageView.{PageView}
use Rattle.heap_terms.specs.declared.answers.PageView.TheVariants as views
use Rattle.heap_terms.specs.declared.answers.Refusal.{Refusal}
use Rattle.heap_terms.specs.declared.answers.Refusal.TheVariants.{NotType, OutOfRange, TableFull, Exhausted, Nothing, PinsFull}
use Rattle.heap_terms.specs.declared.cells.Cell.{Cell}
use Rattle.heap_terms.specs.declared.cells.Cell.TheVariants as cells
use Rattle.heap_terms.specs.declared.cells.Raw.{Raw}
use Rattle.heap_terms.specs.declared.cells.Value.{Value}
use Rattle.heap_terms.specs.declared.cells.Value.TheVariants as values
use Rattle.heap_terms.specs.declared.commands.Command.{Command}
use Rattle.heap_terms.specs.declared.commands.Command.TheVariants.{Fix, MakeNil, Move, NewCons, NewVector, NewInstance, NewClosure, NewWords, NewWeak, NewTable, Get, Put, RawGet, RawPut, Same, Show, Addr, SetRaw, AddRaw, Pin, Unpin, WeakVal, TablePut, TableGet, TableRem, TableCount, Finalize, Cancel, RunFinalizers, Collect, Inhibit, Allow, ShowPage, Stat}
use Rattle.heap_terms.specs.declared.events.Cull.{Cull}
use Rattle.heap_terms.specs.declared.events.Event.{Event}
use Rattle.heap_terms.specs.declared.events.Event.TheVariants.{Did, Opened, Collected, Ended}
use Rattle.heap_terms.specs.declared.events.PassRecord.{PassRecord}
use Rattle.heap_terms.specs.declared.events.PinAt.{PinAt}
use Rattle.heap_terms.specs.declared.events.Placing.{Placing}
use Rattle.heap_terms.specs.declared.kinds.PageType.{PageType}
use Rattle.heap_terms.specs.declared.kinds.PageType.TheVariants as types
use Rattle.heap_terms.specs.declared.kinds.Weakness.{Weakness}
use Rattle.heap_terms.specs.declared.kinds.Weakness.TheVariants as weaknesses
use Rattle.heap_terms.specs.Valid.{name_of}

-- a field of a line, with the space before it
abbrev pub field : List ℕ → List ℕ
field text = codes " " ++ text

-- a number as a field
abbrev pub number_field : ℕ → List ℕ
number_field n = field (decimal n)

-- `s`, `b` or `g` and the cell's number
abbrev pub cell_text : Cell → List ℕ
cell_text (cells.Stack i) = codes "s" ++ decimal i
cell_text (cells.Exact i) = codes "b" ++ decimal i
cell_text (cells.Shared i) = codes "g" ++ decimal i

-- a cell as a field
abbrev pub cell_field : Cell → List ℕ
cell_field c = field (cell_text c)

-- a raw cell, `r` and its number, as a field
abbrev pub raw_field : Raw → List ℕ
raw_field r = field (codes "r" ++ decimal r.0)

-- one of 0 to 9 and a to f
abbrev pub hex_digit : ℕ → ℕ
hex_digit d = if nat_lt d 10 then 48 + d else 87 + d

-- so many hexadecimal digits of a number, the last ones
unfoldable pub hex_digits : ℕ → ℕ → List ℕ
hex_digits zero w = []
hex_digits (suc k) w = hex_digits k (w / 16) ++ hex_digit (w % 16) ∷ []

-- a raw word: `0x` and 16 digits
abbrev pub word_text : ℕ → List ℕ
word_text w = codes "0x" ++ hex_digits 16 w

-- `#` and an object's name
abbrev pub name_text : ℕ → List ℕ
name_text name = codes "#" ++ decimal name

-- `@` and an index
abbrev pub index_text : ℕ → List ℕ
index_text index = codes "@" ++ decimal index

-- a value: its number, `nil`, or its name; `unbound` is no part of a journal
abbrev pub value_text : Value → List ℕ
value_text (values.Fix n) = signed_decimal n
value_text values.Nil = codes "nil"
value_text values.Unbound = codes "unbound"
value_text (values.Ref name) = name_text name

-- the word of a weakness
abbrev pub weakness_text : Weakness → List ℕ
weakness_text weaknesses.Strong = codes "strong"
weakness_text weaknesses.Key = codes "key"
weakness_text weaknesses.Value = codes "value"
weakness_text weaknesses.KeyAndValue = codes "key-and-value"
weakness_text weaknesses.KeyOrValue = codes "key-or-value"

-- the fields of a command after its word
abbrev pub fields_text : Command → List ℕ
fields_text (Fix d n) = cell_field d ++ field (signed_decimal n)
fields_text (MakeNil d) = cell_field d
fields_text (Move d c) = cell_field d ++ cell_field c
fields_text (NewCons d a b) = cell_field d ++ cell_field a ++ cell_field b
fields_text (NewVector d n) = cell_field d ++ number_field n
fields_text (NewInstance d n) = cell_field d ++ number_field n
fields_text (NewClosure d n) = cell_field d ++ number_field n
fields_text (NewWords d n w) = cell_field d ++ number_field n ++ field (word_text w)
fields_text (NewWeak d c) = cell_field d ++ cell_field c
fields_text (NewTable d w b) = cell_field d ++ field (weakness_text w) ++ number_field b
fields_text (Get d c i) = cell_field d ++ cell_field c ++ number_field i
fields_text (Put c i a) = cell_field c ++ number_field i ++ cell_field a
fields_text (RawGet r c i) = raw_field r ++ cell_field c ++ number_field i
fields_text (RawPut c i r) = cell_field c ++ number_field i ++ raw_field r
fields_text (Same a b) = cell_field a ++ cell_field b
fields_text (Show c) = cell_field c
fields_text (Addr r c) = raw_field r ++ cell_field c
fields_text (SetRaw r w) = raw_field r ++ field (word_text w)
fields_text (AddRaw r k) = raw_field r ++ field (signed_decimal k)
fields_text (Pin c) = cell_field c
fields_text Unpin = []
fields_text (WeakVal d c) = cell_field d ++ cell_field c
fields_text (TablePut c k v) = cell_field c ++ cell_field k ++ cell_field v
fields_text (TableGet d c k) = cell_field d ++ cell_field c ++ cell_field k
fields_text (TableRem c k) = cell_field c ++ cell_field k
fields_text (TableCount c) = cell_field c
fields_text (Finalize c id) = cell_field c ++ number_field id
fields_text (Cancel c) = cell_field c
fields_text RunFinalizers = []
fields_text (Collect g) = number_field g
fields_text Inhibit = []
fields_text Allow = []
fields_text (ShowPage p) = number_field p
fields_text (Stat g) = number_field g

-- a command as a script spells it
abbrev pub command_text : Command → List ℕ
command_text c = name_of c ++ fields_text c

-- the word of a refusal
abbrev pub refusal_text : Refusal → List ℕ
refusal_text NotType = codes "!type"
refusal_text OutOfRange = codes "!range"
refusal_text TableFull = codes "!full"
refusal_text Exhausted = codes "!exhausted"
refusal_text Nothing = codes "!empty"
refusal_text PinsFull = codes "!pins"

-- the word of a page type
abbrev pub type_text : PageType → List ℕ
type_text types.Cons = codes "cons"
type_text types.Boxed = codes "boxed"
type_text types.Unboxed = codes "unboxed"

-- an object of a page, or a maximal run of its words that belong to none
abbrev pub item_text : Option ℕ → ℕ → ℕ → List ℕ
item_text (Some name) index count = name_text name ++ index_text index
item_text None index count = codes "~" ++ decimal count ++ index_text index

-- a page: `free`, what lies on a small region's page, or the object of a large one's
abbrev pub page_text : PageView → List ℕ
page_text views.Free = codes "free"
page_text (views.Small ty g fill items) =
    type_text ty ++ field (codes "g" ++ decimal g) ++ codes " fill" ++ number_field fill
    ++ flat_map (λ (item : Item). field (item_text item.name item.index item.count)) items
page_text (views.Large ty g pages name index) =
    type_text ty ++ field (codes "g" ++ decimal g) ++ codes " large" ++ number_field pages ++ field (name_text name ++ index_text index)

-- an answer, by the form that its command's answers have
abbrev pub answer_text : Answer → List ℕ
answer_text answers.Done = codes "ok"
answer_text (answers.Val v) = value_text v
answer_text (answers.Word w) = word_text w
answer_text answers.Yes = codes "yes"
answer_text answers.No = codes "no"
answer_text answers.Absent = codes "none"
answer_text (answers.Live v) = codes "live" ++ field (value_text v)
answer_text answers.Broken = codes "broken"
answer_text (answers.Count n) = decimal n
answer_text (answers.Ran ids) = codes "ran" ++ flat_map number_field ids
answer_text (answers.Page view) = page_text view
answer_text (answers.Stat allocated cum num) = codes "allocated" ++ number_field allocated ++ codes " cum" ++ number_field cum ++ codes " num" ++ number_field num
answer_text (answers.Placed name index) = name_text name ++ field (index_text index)
answer_text (answers.Refused refusal) = refusal_text refusal

-- a line
abbrev pub line : List ℕ → List ℕ
line text = text ++ codes "\n"

-- a move, or a stay
abbrev pub placing_text : ℕ → ℕ → Option ℕ → List ℕ
placing_text name old (Some new) = codes "move" ++ field (name_text name) ++ field (index_text old) ++ field (index_text new)
placing_text name old None = codes "stay" ++ field (name_text name) ++ field (index_text old)

-- the lines of one pass, each kind in its order
abbrev pub pass_text : PassRecord → List ℕ
pass_text r =
    line (codes "pass" ++ number_field r.generation ++ number_field r.target)
    ++ flat_map (λ (m : Placing). line (placing_text m.name m.old m.new)) r.moves
    ++ flat_map (λ (q : PinAt). line (codes "pin" ++ field (name_text q.name) ++ field (index_text q.index))) r.pins
    ++ flat_map (λ (k : Cull). line (codes "cull" ++ field (name_text k.table) ++ field (value_text k.key) ++ field (value_text k.value))) r.culls
    ++ flat_map (λ name. line (codes "break" ++ field (name_text name))) r.breaks
    ++ flat_map (λ id. line (codes "queue" ++ number_field id)) r.queued
    ++ flat_map (λ page. line (codes "free" ++ number_field page)) r.freed
    ++ line (codes "swept" ++ number_field r.dead ++ number_field r.kept)

-- the lines of an event
unfoldable pub event_text : Event → List ℕ
event_text (Did t c answer) = line (decimal t ++ codes " " ++ command_text c ++ codes " -> " ++ answer_text answer)
event_text (Opened t ty first k) = line (decimal t ++ codes " open" ++ field (type_text ty) ++ number_field first ++ number_field k)
event_text (Collected t last passes) = line (decimal t ++ codes " collect" ++ number_field last) ++ flat_map pass_text passes
event_text (Ended t) = line (decimal t ++ codes " end")

-- the journal of a history: its events, and how many there are
abbrev pub journal_text : List Event → List ℕ
journal_text h = flat_map event_text h ++ line (codes "done" ++ number_field (length h))
