-- The lines of a script as a table: for each word the forms of the fields after it, and what the line says.
-- A row may stand here before its word is built; the list of built words decides which lines are read.
use Rattle.std.specs.Prelude.{ℕ, ℤ, Bool, List, [], ◌∷◌, ◌++◌, length, Option, Some, None, ok_or, Result, Ok, Err, if◌then◌else◌, ◌==◌, bytes_eq, codes, find}
use Rattle.heap_terms.specs.declared.cells.Cell.{Cell}
use Rattle.heap_terms.specs.declared.cells.Raw.{Raw}
use Rattle.heap_terms.specs.declared.commands.Command.{Command}
use Rattle.heap_terms.specs.declared.commands.Command.TheVariants as commands
use Rattle.heap_terms.specs.declared.faults.Why.{Why}
use Rattle.heap_terms.specs.declared.faults.Why.TheVariants.{Word, Fields, Form}
use Rattle.heap_terms.specs.declared.kinds.Weakness.{Weakness}
use Rattle.heap_terms.specs.declared.limits.TheConstants.{MOST_ELEMENTS, MOST_PAIRS, OLDEST_COLLECTED, OLDEST_GENERATION}
use Rattle.heap_terms.specs.Fields.{◌>>=◌, number_of, signed_of, raw_word_of, cell_of, raw_cell_of, weakness_named, ranged, between, at_least, at_most, is_fixnum, is_i64, is_auto, turns_of}

-- what a field may be; a number has a test of its range
pub data FieldForm : Type 0 where
  LispCell : FieldForm
  RawCell : FieldForm
  RawWord : FieldForm
  WeaknessWord : FieldForm
  Number : (ℕ → Bool) → FieldForm
  Signed : (ℤ → Bool) → FieldForm

-- what a field of a form says
abbrev pub Meaning : FieldForm → Type 0
Meaning LispCell = Cell
Meaning RawCell = Raw
Meaning RawWord = ℕ
Meaning WeaknessWord = Weakness
Meaning (Number test) = ℕ
Meaning (Signed test) = ℤ

-- what a line says
pub data Statement : Type 0 where
  Version : Statement
  HeapOf : ℕ → Statement
  AutoOf : ℕ → Statement
  NewThread : Statement
  Does : Command → Statement
  Turns : List ℕ → Statement
  EndOfScript : Statement

-- what is said once the fields of some forms have their meanings: a statement of each list of meanings of these forms
abbrev pub Saying : List FieldForm → Type 0
Saying [] = Statement
Saying (form ∷ forms) = Meaning form → Saying forms

-- the row of a word: the forms of the fields after it, and what their meanings say
pub record Row : Type 0 where
  pub word : List ℕ
  pub forms : List FieldForm
  pub says : Saying forms

-- a field's meaning: its form is judged before its range
abbrev pub meaning_of : (form : FieldForm) → List ℕ → Result (Meaning form) Why
meaning_of LispCell field = ok_or (cell_of field) Form
meaning_of RawCell field = ok_or (raw_cell_of field) Form
meaning_of RawWord field = ok_or (raw_word_of field) Form
meaning_of WeaknessWord field = ok_or (weakness_named field) Form
meaning_of (Number test) field = ranged test (number_of field)
meaning_of (Signed test) field = ranged test (signed_of field)

-- what fields say, of which there are as many as forms: field by field, from the left
abbrev pub said_of : (forms : List FieldForm) → Saying forms → List (List ℕ) → Result Statement Why
said_of [] says fields = Ok says
said_of (form ∷ forms) says [] = Err Fields
said_of (form ∷ forms) says (field ∷ fields) = meaning_of form field >>= λ m. said_of forms (says m) fields

-- ranges of number fields: an index or a count of elements, a number of 32 bits
abbrev pub Small : FieldForm
Small = Number (at_most MOST_ELEMENTS)

abbrev pub Wide : FieldForm
Wide = Number (at_most 4294967295)

abbrev pub row : List ℕ → (forms : List FieldForm) → Saying forms → Row
row word forms says = record { word = word; forms = forms; says = says }

-- The table. A number of pages above 1,024 has its range and passes a limit.
unfoldable pub rows : List Row
rows =
    row (codes "lispheap") (Number (between 1 1) ∷ []) (λ version. Version)
    ∷ row (codes "heap") (Number (at_least 1) ∷ []) (λ n. HeapOf n)
    ∷ row (codes "auto") (Number is_auto ∷ []) (λ n. AutoOf n)
    ∷ row (codes "thread") [] NewThread
    ∷ row (codes "end") [] EndOfScript
    ∷ row (codes "fix") (LispCell ∷ Signed is_fixnum ∷ []) (λ d n. Does (commands.Fix d n))
    ∷ row (codes "nil") (LispCell ∷ []) (λ d. Does (commands.MakeNil d))
    ∷ row (codes "move") (LispCell ∷ LispCell ∷ []) (λ d c. Does (commands.Move d c))
    ∷ row (codes "cons") (LispCell ∷ LispCell ∷ LispCell ∷ []) (λ d a b. Does (commands.NewCons d a b))
    ∷ row (codes "vector") (LispCell ∷ Small ∷ []) (λ d n. Does (commands.NewVector d n))
    ∷ row (codes "instance") (LispCell ∷ Small ∷ []) (λ d n. Does (commands.NewInstance d n))
    ∷ row (codes "closure") (LispCell ∷ Small ∷ []) (λ d n. Does (commands.NewClosure d n))
    ∷ row (codes "words") (LispCell ∷ Small ∷ RawWord ∷ []) (λ d n w. Does (commands.NewWords d n w))
    ∷ row (codes "weak") (LispCell ∷ LispCell ∷ []) (λ d c. Does (commands.NewWeak d c))
    ∷ row (codes "table") (LispCell ∷ WeaknessWord ∷ Number (between 1 MOST_PAIRS) ∷ []) (λ d w b. Does (commands.NewTable d w b))
    ∷ row (codes "get") (LispCell ∷ LispCell ∷ Small ∷ []) (λ d c i. Does (commands.Get d c i))
    ∷ row (codes "put") (LispCell ∷ Small ∷ LispCell ∷ []) (λ c i a. Does (commands.Put c i a))
    ∷ row (codes "rawget") (RawCell ∷ LispCell ∷ Small ∷ []) (λ r c i. Does (commands.RawGet r c i))
    ∷ row (codes "rawput") (LispCell ∷ Small ∷ RawCell ∷ []) (λ c i r. Does (commands.RawPut c i r))
    ∷ row (codes "eq") (LispCell ∷ LispCell ∷ []) (λ a b. Does (commands.Same a b))
    ∷ row (codes "show") (LispCell ∷ []) (λ c. Does (commands.Show c))
    ∷ row (codes "addr") (RawCell ∷ LispCell ∷ []) (λ r c. Does (commands.Addr r c))
    ∷ row (codes "raw") (RawCell ∷ RawWord ∷ []) (λ r w. Does (commands.SetRaw r w))
    ∷ row (codes "add") (RawCell ∷ Signed is_i64 ∷ []) (λ r k. Does (commands.AddRaw r k))
    ∷ row (codes "pin") (LispCell ∷ []) (λ c. Does (commands.Pin c))
    ∷ row (codes "unpin") [] (Does commands.Unpin)
    ∷ row (codes "weakval") (LispCell ∷ LispCell ∷ []) (λ d c. Does (commands.WeakVal d c))
    ∷ row (codes "tput") (LispCell ∷ LispCell ∷ LispCell ∷ []) (λ c k v. Does (commands.TablePut c k v))
    ∷ row (codes "tget") (LispCell ∷ LispCell ∷ LispCell ∷ []) (λ d c k. Does (commands.TableGet d c k))
    ∷ row (codes "trem") (LispCell ∷ LispCell ∷ []) (λ c k. Does (commands.TableRem c k))
    ∷ row (codes "tcount") (LispCell ∷ []) (λ c. Does (commands.TableCount c))
    ∷ row (codes "finalize") (LispCell ∷ Wide ∷ []) (λ c id. Does (commands.Finalize c id))
    ∷ row (codes "cancel") (LispCell ∷ []) (λ c. Does (commands.Cancel c))
    ∷ row (codes "runfin") [] (Does commands.RunFinalizers)
    ∷ row (codes "gc") (Number (at_most OLDEST_COLLECTED) ∷ []) (λ g. Does (commands.Collect g))
    ∷ row (codes "nogc") [] (Does commands.Inhibit)
    ∷ row (codes "gcok") [] (Does commands.Allow)
    ∷ row (codes "page") (Wide ∷ []) (λ p. Does (commands.ShowPage p))
    ∷ row (codes "stat") (Number (at_most OLDEST_GENERATION) ∷ []) (λ g. Does (commands.Stat g))
    ∷ []

-- what a row's line says: first the number of its fields is judged, then each field
abbrev pub said_by : Row → List (List ℕ) → Result Statement Why
said_by r fields = if length fields == length r.forms then said_of r.forms r.says fields else Err Fields

abbrev pub said_by_row_of : Option Row → List (List ℕ) → Result Statement Why
said_by_row_of None fields = Err Word
said_by_row_of (Some r) fields = said_by r fields

-- the turns of all fields of a schedule
abbrev pub turns_of_all : ℕ → List (List ℕ) → Result (List ℕ) Why
turns_of_all threads [] = Ok []
turns_of_all threads (field ∷ fields) = turns_of threads field >>= λ ts. turns_of_all threads fields >>= λ more. Ok (ts ++ more)

-- a schedule has one field at least, and names threads below their number
abbrev pub schedule_of : ℕ → List (List ℕ) → Result Statement Why
schedule_of threads [] = Err Fields
schedule_of threads (field ∷ fields) = turns_of_all threads (field ∷ fields) >>= λ ts. Ok (Turns ts)

-- what a line says, in a script with so many threads before it
unfoldable pub statement_of : ℕ → List ℕ → List (List ℕ) → Result Statement Why
statement_of threads word fields =
    if bytes_eq word (codes "schedule") then schedule_of threads fields
    else said_by_row_of (find (λ (r : Row). bytes_eq word r.word) rows) fields
