-- What a script says, or why it says nothing. Each line is judged from its fields and from the lines before it,
-- and the first line that is judged bad decides. The checks, their order and the limits are this project's own.
use Rattle.std.specs.Prelude.{ℕ, ◌+◌, Bool, false, ◌||◌, not, List, [], ◌∷◌, ◌++◌, length, Option, Some, None, Result, Ok, Err, if◌then◌else◌, nat_lt, ◌==◌, sum_by, count_by, bytes_eq, codes, slice_index}
use Rattle.std.specs.Str.Lines.{lines}
use Rattle.heap_terms.specs.declared.commands.Command.{Command}
use Rattle.heap_terms.specs.declared.faults.Why.{Why}
use Rattle.heap_terms.specs.declared.faults.Why.TheVariants.{Word, Order, Missing}
use Rattle.heap_terms.specs.declared.faults.LimitKind.{LimitKind}
use Rattle.heap_terms.specs.declared.faults.LimitKind.TheVariants as limits
use Rattle.heap_terms.specs.declared.programs.Program.{Program}
use Rattle.heap_terms.specs.declared.limits.TheConstants.{MOST_PAGES, MOST_THREADS, MOST_COMMANDS, MOST_GCS, MOST_TURNS}
use Rattle.heap_terms.specs.Fields.{fields_in}
use Rattle.heap_terms.specs.Grammar.{Statement, Version, HeapOf, AutoOf, NewThread, Does, Turns, EndOfScript, statement_of}
use Rattle.heap_terms.specs.Valid.{is_built, is_gc}

-- after which line a line stands: what may follow depends on this alone
pub data Place : Type 0 where
  AtStart : Place
  AfterVersion : Place
  AfterHeap : Place
  AfterAuto : Place
  InThread : Place
  InSchedule : Place
  AfterEnd : Place

-- what the lines so far say: the program that they make, and the place after them
pub record SoFar : Type 0 where
  pub place : Place
  pub program : Program

-- a script with no line
abbrev pub nothing_read : SoFar
nothing_read = record { place = AtStart; program = record { pages = 0; auto = 0; threads = []; schedule = [] } }

-- why a line is bad: a check fails, or it passes a limit
pub data Refused : Type 0 where
  Bad : Why → Refused
  Over : LimitKind → Refused

-- whether a line that begins with this word may stand there: `lispheap`, `heap`, perhaps `auto`, blocks of a `thread`
-- and its commands, any number of `schedule`, `end`
abbrev pub may_follow : Place → List ℕ → Bool
may_follow AtStart word = bytes_eq word (codes "lispheap")
may_follow AfterVersion word = bytes_eq word (codes "heap")
may_follow AfterHeap word = bytes_eq word (codes "auto") || bytes_eq word (codes "thread")
may_follow AfterAuto word = bytes_eq word (codes "thread")
may_follow InThread word = not (bytes_eq word (codes "lispheap") || bytes_eq word (codes "heap") || bytes_eq word (codes "auto"))
may_follow InSchedule word = bytes_eq word (codes "schedule") || bytes_eq word (codes "end")
may_follow AfterEnd word = false

abbrev pub place_after : Statement → Place
place_after Version = AfterVersion
place_after (HeapOf n) = AfterHeap
place_after (AutoOf n) = AfterAuto
place_after NewThread = InThread
place_after (Does c) = InThread
place_after (Turns ts) = InSchedule
place_after EndOfScript = AfterEnd

-- a command belongs to the last thread
abbrev pub onto_last : List (List Command) → Command → List (List Command)
onto_last [] c = []
onto_last (cs ∷ []) c = (cs ++ c ∷ []) ∷ []
onto_last (cs ∷ ds ∷ more) c = cs ∷ onto_last (ds ∷ more) c

-- the program with one more line
abbrev pub with_statement : Program → Statement → Program
with_statement p Version = p
with_statement p (HeapOf n) = record p { pages = n }
with_statement p (AutoOf n) = record p { auto = n }
with_statement p NewThread = record p { threads = p.threads ++ [] ∷ [] }
with_statement p (Does c) = record p { threads = onto_last p.threads c }
with_statement p (Turns ts) = record p { schedule = p.schedule ++ ts }
with_statement p EndOfScript = p

abbrev pub unless_above : ℕ → ℕ → LimitKind → Option LimitKind
unless_above limit n kind = if nat_lt limit n then Some kind else None

-- the limit of a command: at most 20,000 in all threads, and 64 `gc` among them
abbrev pub limit_of_command : List (List Command) → Bool → Option LimitKind
limit_of_command threads gc =
    if nat_lt MOST_COMMANDS (sum_by length threads + 1) then Some limits.Commands
    else if gc then unless_above MOST_GCS (sum_by (count_by is_gc) threads + 1) limits.Gcs
    else None

-- the limit that a line passes: 1,024 pages, 8 threads, 20,000 commands and 64 `gc`, 1,000,000 turns
abbrev pub limit_passed : Program → Statement → Option LimitKind
limit_passed p (HeapOf n) = unless_above MOST_PAGES n limits.Pages
limit_passed p NewThread = unless_above MOST_THREADS (length p.threads + 1) limits.Threads
limit_passed p (Does c) = limit_of_command p.threads (is_gc c)
limit_passed p (Turns ts) = unless_above MOST_TURNS (length p.schedule + length ts) limits.Schedule
limit_passed p Version = None
limit_passed p (AutoOf n) = None
limit_passed p EndOfScript = None

-- the lines so far and one more, which has passed every check but the limits
abbrev pub unless_passed : SoFar → Statement → Option LimitKind → Result SoFar Refused
unless_passed s statement (Some kind) = Err (Over kind)
unless_passed s statement None = Ok (record { place = place_after statement; program = with_statement s.program statement })

abbrev pub within_limits : SoFar → Result Statement Why → Result SoFar Refused
within_limits s (Err why) = Err (Bad why)
within_limits s (Ok statement) = unless_passed s statement (limit_passed s.program statement)

-- a line of a word and fields: the word, its place, the number, forms and ranges of the fields, then the limits
unfoldable pub judged_word : SoFar → List ℕ → List (List ℕ) → Result SoFar Refused
judged_word s word fields =
    if not (is_built word) then Err (Bad Word)
    else if not (may_follow s.place word) then Err (Bad Order)
    else within_limits s (statement_of (length s.program.threads) word fields)

-- a line, by its fields; one without fields, or whose first field begins with `;`, is skipped
unfoldable pub judged : SoFar → List (List ℕ) → Result SoFar Refused
judged s [] = Ok s
judged s (word ∷ fields) = if slice_index word 0 == 59 then Ok s else judged_word s word fields

-- why a script is refused: the number of the line from 1, and the check or the limit
pub data Fault : Type 0 where
  LineFault : ℕ → Why → Fault
  LimitFault : ℕ → LimitKind → Fault

abbrev pub fault_at : ℕ → Refused → Fault
fault_at number (Bad why) = LineFault number why
fault_at number (Over kind) = LimitFault number kind

-- the program of all lines, where `end` is the last of them
abbrev pub finished_at : Place → Program → ℕ → Result Program Fault
finished_at AfterEnd p number = Ok p
finished_at _ p number = Err (LineFault number Missing)

abbrev pub finished : SoFar → ℕ → Result Program Fault
finished s number = finished_at s.place s.program number

-- the lines so far, and lines from this number on
unfoldable pub read_lines : SoFar → ℕ → List (List ℕ) → Result Program Fault
read_lines s number [] = finished s number
read_lines s number (line ∷ more) = elim (judged s (fields_in line)) [ Ok next ↦ read_lines next (number + 1) more | Err refused ↦ Err (fault_at number refused) ]

-- what the bytes of a script say
unfoldable pub read_script : List ℕ → Result Program Fault
read_script bytes = read_lines nothing_read 1 (lines bytes)
