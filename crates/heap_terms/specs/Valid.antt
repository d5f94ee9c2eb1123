-- Which programs a script can be read as. All ranges and limits are this project's own.
use Rattle.std.specs.Prelude.{◌≡◌, ℕ, ℤ, pos, negsuc, ◌<◌, ◌≤◌, ◌^◌, ◌⊎◌, List, [], ◌∷◌, length, All, sum_by, count_by, Bool, true, false, codes}
use Rattle.std.specs.Str.{bytes_eq}
use Rattle.std.specs.List.{list_any}
use Rattle.heap_terms.specs.declared.cells.Cell.{Cell}
use Rattle.heap_terms.specs.declared.cells.Cell.TheVariants.{Stack, Exact, Shared}
use Rattle.heap_terms.specs.declared.cells.Raw.{Raw}
use Rattle.heap_terms.specs.declared.commands.Command.{Command}
use Rattle.heap_terms.specs.declared.commands.Command.TheVariants.{Fix, MakeNil, Move, NewCons, NewVector, NewInstance, NewClosure, NewWords, NewWeak, NewTable, Get, Put, RawGet, RawPut, Same, Show, Addr, SetRaw, AddRaw, Pin, Unpin, WeakVal, TablePut, TableGet, TableRem, TableCount, Finalize, Cancel, RunFinalizers, Collect, Inhibit, Allow, ShowPage, Stat}
use Rattle.heap_terms.specs.declared.programs.Program.{Program}
use Rattle.heap_terms.specs.declared.limits.TheConstants.{CELLS, RAW_CELLS, MOST_ELEMENTS, MOST_PAIRS, LEAST_AUTO, MOST_AUTO, MOST_PAGES, MOST_THREADS, MOST_COMMANDS, MOST_GCS, MOST_TURNS, OLDEST_COLLECTED, OLDEST_GENERATION}

-- the cells of each kind are 16
abbrev pub IsCell : Cell → Type 0
IsCell (Stack i) = i < CELLS
IsCell (Exact i) = i < CELLS
IsCell (Shared i) = i < CELLS

-- a thread has 8 raw cells
abbrev pub IsRaw : Raw → Type 0
IsRaw r = r.0 < RAW_CELLS

-- a fixnum is from -2^62 to 2^62 - 1
abbrev pub IsFixnum : ℤ → Type 0
IsFixnum (pos n) = n < 2 ^ 62
IsFixnum (negsuc n) = n < 2 ^ 62

-- a signed number of 64 bits
abbrev pub IsSigned : ℤ → Type 0
IsSigned (pos n) = n < 2 ^ 63
IsSigned (negsuc n) = n < 2 ^ 63

-- the word with which a command's line begins
abbrev pub name_of : Command → List ℕ
name_of (Fix d n) = codes "fix"
name_of (MakeNil d) = codes "nil"
name_of (Move d c) = codes "move"
name_of (NewCons d a b) = codes "cons"
name_of (NewVector d n) = codes "vector"
name_of (NewInstance d n) = codes "instance"
name_of (NewClosure d n) = codes "closure"
name_of (NewWords d n w) = codes "words"
name_of (NewWeak d c) = codes "weak"
name_of (NewTable d w b) = codes "table"
name_of (Get d c i) = codes "get"
name_of (Put c i a) = codes "put"
name_of (RawGet r c i) = codes "rawget"
name_of (RawPut c i r) = codes "rawput"
name_of (Same a b) = codes "eq"
name_of (Show c) = codes "show"
name_of (Addr r c) = codes "addr"
name_of (SetRaw r w) = codes "raw"
name_of (AddRaw r k) = codes "add"
name_of (Pin c) = codes "pin"
name_of Unpin = codes "unpin"
name_of (WeakVal d c) = codes "weakval"
name_of (TablePut c k v) = codes "tput"
name_of (TableGet d c k) = codes "tget"
name_of (TableRem c k) = codes "trem"
name_of (TableCount c) = codes "tcount"
name_of (Finalize c id) = codes "finalize"
name_of (Cancel c) = codes "cancel"
name_of RunFinalizers = codes "runfin"
name_of (Collect g) = codes "gc"
name_of Inhibit = codes "nogc"
name_of Allow = codes "gcok"
name_of (ShowPage p) = codes "page"
name_of (Stat g) = codes "stat"

-- the words that this version reads; a line that begins with another word is refused
abbrev pub built_words : List (List ℕ)
built_words = codes "lispheap" ∷ codes "heap" ∷ codes "auto" ∷ codes "thread" ∷ codes "fix" ∷ codes "nil" ∷ codes "move" ∷ codes "cons"
    ∷ codes "vector" ∷ codes "instance" ∷ codes "closure" ∷ codes "words" ∷ codes "weak" ∷ codes "table"
    ∷ codes "get" ∷ codes "put" ∷ codes "rawget" ∷ codes "rawput" ∷ codes "eq" ∷ codes "show" ∷ codes "addr"
    ∷ codes "raw" ∷ codes "add" ∷ codes "pin" ∷ codes "unpin" ∷ codes "weakval" ∷ codes "tput" ∷ codes "tget" ∷ codes "trem"
    ∷ codes "tcount" ∷ codes "gc" ∷ codes "nogc" ∷ codes "gcok" ∷ codes "page" ∷ codes "stat"
    ∷ codes "finalize" ∷ codes "cancel" ∷ codes "runfin" ∷ codes "schedule" ∷ codes "end" ∷ []

-- whether a word is among them
abbrev pub is_built : List ℕ → Bool
is_built word = list_any (bytes_eq word) built_words

-- each field of a command is in its range
abbrev pub IsInRange : Command → Type 0
IsInRange (Fix d n) = IsCell d × IsFixnum n
IsInRange (MakeNil d) = IsCell d
IsInRange (Move d c) = IsCell d × IsCell c
IsInRange (NewCons d a b) = IsCell d × IsCell a × IsCell b
IsInRange (NewVector d n) = IsCell d × (n ≤ MOST_ELEMENTS)
IsInRange (NewInstance d n) = IsCell d × (n ≤ MOST_ELEMENTS)
IsInRange (NewClosure d n) = IsCell d × (n ≤ MOST_ELEMENTS)
IsInRange (NewWords d n w) = IsCell d × (n ≤ MOST_ELEMENTS) × (w < 2 ^ 64)
IsInRange (NewWeak d c) = IsCell d × IsCell c
IsInRange (NewTable d w b) = IsCell d × (1 ≤ b) × (b ≤ MOST_PAIRS)
IsInRange (Get d c i) = IsCell d × IsCell c × (i ≤ MOST_ELEMENTS)
IsInRange (Put c i a) = IsCell c × (i ≤ MOST_ELEMENTS) × IsCell a
IsInRange (RawGet r c i) = IsRaw r × IsCell c × (i ≤ MOST_ELEMENTS)
IsInRange (RawPut c i r) = IsCell c × (i ≤ MOST_ELEMENTS) × IsRaw r
IsInRange (Same a b) = IsCell a × IsCell b
IsInRange (Show c) = IsCell c
IsInRange (Addr r c) = IsRaw r × IsCell c
IsInRange (SetRaw r w) = IsRaw r × (w < 2 ^ 64)
IsInRange (AddRaw r k) = IsRaw r × IsSigned k
IsInRange (Pin c) = IsCell c
IsInRange Unpin = Unit {0}
IsInRange (WeakVal d c) = IsCell d × IsCell c
IsInRange (TablePut c k v) = IsCell c × IsCell k × IsCell v
IsInRange (TableGet d c k) = IsCell d × IsCell c × IsCell k
IsInRange (TableRem c k) = IsCell c × IsCell k
IsInRange (TableCount c) = IsCell c
IsInRange (Finalize c id) = IsCell c × (id < 2 ^ 32)
IsInRange (Cancel c) = IsCell c
IsInRange RunFinalizers = Unit {0}
IsInRange (Collect g) = g ≤ OLDEST_COLLECTED
IsInRange Inhibit = Unit {0}
IsInRange Allow = Unit {0}
IsInRange (ShowPage p) = p < 2 ^ 32
IsInRange (Stat g) = g ≤ OLDEST_GENERATION

-- a command that a script can have: its word is built, and its fields are in range
pub record IsCommand (c : Command) : Type 0 where
  pub built : is_built (name_of c) ≡ true
  pub in_range : IsInRange c

-- whether a command is `gc`
abbrev pub is_gc : Command → Bool
is_gc (Collect g) = true
is_gc (Fix d n) = false
is_gc (MakeNil d) = false
is_gc (Move d c) = false
is_gc (NewCons d a b) = false
is_gc (NewVector d n) = false
is_gc (NewInstance d n) = false
is_gc (NewClosure d n) = false
is_gc (NewWords d n w) = false
is_gc (NewWeak d c) = false
is_gc (NewTable d w b) = false
is_gc (Get d c i) = false
is_gc (Put c i a) = false
is_gc (RawGet r c i) = false
is_gc (RawPut c i r) = false
is_gc (Same a b) = false
is_gc (Show c) = false
is_gc (Addr r c) = false
is_gc (SetRaw r w) = false
is_gc (AddRaw r k) = false
is_gc (Pin c) = false
is_gc Unpin = false
is_gc (WeakVal d c) = false
is_gc (TablePut c k v) = false
is_gc (TableGet d c k) = false
is_gc (TableRem c k) = false
is_gc (TableCount c) = false
is_gc (Finalize c id) = false
is_gc (Cancel c) = false
is_gc RunFinalizers = false
is_gc Inhibit = false
is_gc Allow = false
is_gc (ShowPage p) = false
is_gc (Stat g) = false

-- so many words between two collections that `auto` asks for, or 0 for none
abbrev pub IsAuto : ℕ → Type 0
IsAuto words = (words ≡ 0) ⊎ ((LEAST_AUTO ≤ words) × (words ≤ MOST_AUTO))

-- A program that a script can be read as: one to eight threads, 1 to 1,024 pages, at most 20,000 commands and
-- 64 `gc` among them, at most 1,000,000 turns, and a number of `auto`.
pub record IsValid (p : Program) : Type 0 where
  pub pages_least : 1 ≤ p.pages
  pub pages_most : p.pages ≤ MOST_PAGES
  pub auto : IsAuto p.auto
  pub threads_least : 1 ≤ length p.threads
  pub threads_most : length p.threads ≤ MOST_THREADS
  pub commands : All (All IsCommand) p.threads
  pub commands_most : sum_by length p.threads ≤ MOST_COMMANDS
  pub gcs_most : sum_by (count_by is_gc) p.threads ≤ MOST_GCS
  pub schedule : All (λ t. t < length p.threads) p.schedule
  pub schedule_most : length p.schedule ≤ MOST_TURNS
