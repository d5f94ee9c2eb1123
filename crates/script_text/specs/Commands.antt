-- Reading the fields of a command one after the other, before it is known how many there are.
use Rattle.std.specs.Prelude.{◌≡◌, ℕ, ℤ, true, List, [], ◌∷◌, drop, Result, Ok, Err, ok_or}
use Rattle.heap_terms.specs.declared.cells.Cell.{Cell}
use Rattle.heap_terms.specs.declared.cells.Raw.{Raw}
use Rattle.heap_terms.specs.declared.commands.Command.{Command}
use Rattle.heap_terms.specs.declared.commands.Command.TheVariants as commands
use Rattle.heap_terms.specs.declared.faults.Why.{Why}
use Rattle.heap_terms.specs.declared.faults.Why.TheVariants.{Fields, Form}
use Rattle.heap_terms.specs.declared.kinds.Weakness.{Weakness}
use Rattle.heap_terms.specs.declared.limits.TheConstants.{MOST_ELEMENTS, MOST_PAIRS, OLDEST_COLLECTED, OLDEST_GENERATION}
use Rattle.heap_terms.specs.Fields.{◌>>=◌, number_of, signed_of, raw_word_of, cell_of, raw_cell_of, weakness_named, ranged, between, at_most, is_fixnum, is_i64}
use Rattle.heap_terms.specs.Valid.{is_built}
use Rattle.heap_terms.specs.Grammar.{Statement, Does, statement_of}
use Rattle.script_text.specs.declared.words.Name.{Name}
use Rattle.script_text.specs.declared.words.Name.TheVariants as names
use Rattle.script_text.specs.Left.{fields_left, lines_after, Taken}
use Rattle.script_text.specs.Words.{text_of_name}

-- what the first field says; a line without one has too few
abbrev pub in_first : {A : Type 0} → (List ℕ → Result A Why) → List (List ℕ) → Result A Why
in_first reads [] = Err Fields
in_first reads (field ∷ fields) = reads field

abbrev pub but_first : List (List ℕ) → List (List ℕ)
but_first [] = []
but_first (field ∷ fields) = fields

-- one field was read
pub record Moved (old new : List ℕ) : Type 0 where
  pub fields : fields_left new ≡ but_first (fields_left old)
  pub lines : lines_after new ≡ lines_after old

abbrev pub a_cell : List ℕ → Result Cell Why
a_cell field = ok_or (cell_of field) Form

abbrev pub an_index : List ℕ → Result ℕ Why
an_index field = ranged (at_most MOST_ELEMENTS) (number_of field)

abbrev pub a_fixnum : List ℕ → Result ℤ Why
a_fixnum field = ranged is_fixnum (signed_of field)

abbrev pub a_signed : List ℕ → Result ℤ Why
a_signed field = ranged is_i64 (signed_of field)

abbrev pub a_wide : List ℕ → Result ℕ Why
a_wide field = ranged (at_most 4294967295) (number_of field)

abbrev pub a_generation : ℕ → List ℕ → Result ℕ Why
a_generation oldest field = ranged (at_most oldest) (number_of field)

abbrev pub a_raw_cell : List ℕ → Result Raw Why
a_raw_cell field = ok_or (raw_cell_of field) Form

abbrev pub a_raw_word : List ℕ → Result ℕ Why
a_raw_word field = ok_or (raw_word_of field) Form

abbrev pub a_weakness : List ℕ → Result Weakness Why
a_weakness field = ok_or (weakness_named field) Form

-- for how many pairs a table has room
abbrev pub a_capacity : List ℕ → Result ℕ Why
a_capacity field = ranged (between 1 MOST_PAIRS) (number_of field)

-- one field was read, and this is what it says
pub record Reads {A : Type 0} (reads : List ℕ → Result A Why) (old : List ℕ) (x : A) (new : List ℕ) : Type 0 where
  pub field : List ℕ
  pub says : reads field ≡ Ok x
  pub taken : Taken old field new

-- the command of the fields at the front, whatever follows them
abbrev pub front_command : Name → List (List ℕ) → Result Command Why
front_command names.Fix fs = in_first a_cell fs >>= λ d. in_first a_fixnum (but_first fs) >>= λ n. Ok (commands.Fix d n)
front_command names.Nil fs = in_first a_cell fs >>= λ d. Ok (commands.MakeNil d)
front_command names.Move fs = in_first a_cell fs >>= λ d. in_first a_cell (but_first fs) >>= λ c. Ok (commands.Move d c)
front_command names.Cons fs = in_first a_cell fs >>= λ d. in_first a_cell (but_first fs) >>= λ a. in_first a_cell (but_first (but_first fs)) >>= λ b. Ok (commands.NewCons d a b)
front_command names.Vector fs = in_first a_cell fs >>= λ d. in_first an_index (but_first fs) >>= λ n. Ok (commands.NewVector d n)
front_command names.Instance fs = in_first a_cell fs >>= λ d. in_first an_index (but_first fs) >>= λ n. Ok (commands.NewInstance d n)
front_command names.Closure fs = in_first a_cell fs >>= λ d. in_first an_index (but_first fs) >>= λ n. Ok (commands.NewClosure d n)
front_command names.Words fs = in_first a_cell fs >>= λ d. in_first an_index (but_first fs) >>= λ n. in_first a_raw_word (but_first (but_first fs)) >>= λ w. Ok (commands.NewWords d n w)
front_command names.Weak fs = in_first a_cell fs >>= λ d. in_first a_cell (but_first fs) >>= λ c. Ok (commands.NewWeak d c)
front_command names.Table fs = in_first a_cell fs >>= λ d. in_first a_weakness (but_first fs) >>= λ w. in_first a_capacity (but_first (but_first fs)) >>= λ b. Ok (commands.NewTable d w b)
front_command names.Get fs = in_first a_cell fs >>= λ d. in_first a_cell (but_first fs) >>= λ c. in_first an_index (but_first (but_first fs)) >>= λ i. Ok (commands.Get d c i)
front_command names.Put fs = in_first a_cell fs >>= λ c. in_first an_index (but_first fs) >>= λ i. in_first a_cell (but_first (but_first fs)) >>= λ a. Ok (commands.Put c i a)
front_command names.RawGet fs = in_first a_raw_cell fs >>= λ r. in_first a_cell (but_first fs) >>= λ c. in_first an_index (but_first (but_first fs)) >>= λ i. Ok (commands.RawGet r c i)
front_command names.RawPut fs = in_first a_cell fs >>= λ c. in_first an_index (but_first fs) >>= λ i. in_first a_raw_cell (but_first (but_first fs)) >>= λ r. Ok (commands.RawPut c i r)
front_command names.Eq fs = in_first a_cell fs >>= λ a. in_first a_cell (but_first fs) >>= λ b. Ok (commands.Same a b)
front_command names.Show fs = in_first a_cell fs >>= λ c. Ok (commands.Show c)
front_command names.Addr fs = in_first a_raw_cell fs >>= λ r. in_first a_cell (but_first fs) >>= λ c. Ok (commands.Addr r c)
front_command names.Raw fs = in_first a_raw_cell fs >>= λ r. in_first a_raw_word (but_first fs) >>= λ w. Ok (commands.SetRaw r w)
front_command names.Add fs = in_first a_raw_cell fs >>= λ r. in_first a_signed (but_first fs) >>= λ k. Ok (commands.AddRaw r k)
front_command names.Pin fs = in_first a_cell fs >>= λ c. Ok (commands.Pin c)
front_command names.Unpin fs = Ok commands.Unpin
front_command names.WeakVal fs = in_first a_cell fs >>= λ d. in_first a_cell (but_first fs) >>= λ c. Ok (commands.WeakVal d c)
front_command names.TablePut fs = in_first a_cell fs >>= λ c. in_first a_cell (but_first fs) >>= λ k. in_first a_cell (but_first (but_first fs)) >>= λ v. Ok (commands.TablePut c k v)
front_command names.TableGet fs = in_first a_cell fs >>= λ d. in_first a_cell (but_first fs) >>= λ c. in_first a_cell (but_first (but_first fs)) >>= λ k. Ok (commands.TableGet d c k)
front_command names.TableRem fs = in_first a_cell fs >>= λ c. in_first a_cell (but_first fs) >>= λ k. Ok (commands.TableRem c k)
front_command names.TableCount fs = in_first a_cell fs >>= λ c. Ok (commands.TableCount c)
front_command names.Gc fs = in_first (a_generation OLDEST_COLLECTED) fs >>= λ g. Ok (commands.Collect g)
front_command names.Page fs = in_first a_wide fs >>= λ p. Ok (commands.ShowPage p)
front_command names.Stat fs = in_first (a_generation OLDEST_GENERATION) fs >>= λ g. Ok (commands.Stat g)
front_command names.Nogc fs = Ok commands.Inhibit
front_command names.Gcok fs = Ok commands.Allow
front_command names.Finalize fs = in_first a_cell fs >>= λ c. in_first a_wide (but_first fs) >>= λ id. Ok (commands.Finalize c id)
front_command names.Cancel fs = in_first a_cell fs >>= λ c. Ok (commands.Cancel c)
front_command names.Runfin fs = Ok commands.RunFinalizers

-- how many fields a command has after its word
abbrev pub field_count : Name → ℕ
field_count names.Fix = 2
field_count names.Nil = 1
field_count names.Move = 2
field_count names.Cons = 3
field_count names.Vector = 2
field_count names.Instance = 2
field_count names.Closure = 2
field_count names.Words = 3
field_count names.Weak = 2
field_count names.Table = 3
field_count names.Get = 3
field_count names.Put = 3
field_count names.RawGet = 3
field_count names.RawPut = 3
field_count names.Eq = 2
field_count names.Show = 1
field_count names.Addr = 2
field_count names.Raw = 2
field_count names.Add = 2
field_count names.Pin = 1
field_count names.Unpin = 0
field_count names.WeakVal = 2
field_count names.TablePut = 3
field_count names.TableGet = 3
field_count names.TableRem = 2
field_count names.TableCount = 1
field_count names.Gc = 1
field_count names.Page = 1
field_count names.Stat = 1
field_count names.Nogc = 0
field_count names.Gcok = 0
field_count names.Finalize = 2
field_count names.Cancel = 1
field_count names.Runfin = 0

abbrev pub does : Result Command Why → Result Statement Why
does found = found >>= λ c. Ok (Does c)

-- the fields at the front were read, and this is the command that they say
pub record IsFront (name : Name) (old : List ℕ) (c : Command) (new : List ℕ) : Type 0 where
  pub says : front_command name (fields_left old) ≡ Ok c
  pub fields : fields_left new ≡ drop (field_count name) (fields_left old)
  pub lines : lines_after new ≡ lines_after old

-- the line was read, and it says this command, in a script with any number of threads
pub record SaysCommand (old : List ℕ) (c : Command) (new : List ℕ) : Type 0 where
  pub name : Name
  pub built : is_built (text_of_name name) ≡ true
  pub fields : List (List ℕ)
  pub words : fields_left old ≡ text_of_name name ∷ fields
  pub says : (threads : ℕ) → statement_of threads (text_of_name name) fields ≡ Ok (Does c)
  pub lines : lines_after new ≡ lines_after old
