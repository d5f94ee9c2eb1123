-- What one call of the program does: its status, what it took, what it wrote, and what it said. The statuses and
-- their causes are this project's own.
use Rattle.std.specs.Prelude.{◌≡◌, ◌≢◌, ℕ, ◌≤◌, ◌⊎◌, List, [], ◌∷◌, ◌++◌, length, Option, Some, None, Result, Ok, Err, if◌then◌else◌, nat_lt, codes, Bool}
use Rattle.heap_io.specs.Streams.{GaveAll, GaveMore, GaveAtMost}
use Rattle.heap_terms.specs.declared.limits.TheConstants.{MOST_BYTES}
use Rattle.heap_terms.specs.declared.programs.Program.{Program}
use Rattle.heap_terms.specs.ScriptReading.{read_script, Fault as ScriptFault, LineFault, LimitFault}
use Rattle.lispheap.specs.declared.faults.Fault.{Fault}
use Rattle.lispheap.specs.declared.faults.Fault.TheVariants as faults
use Rattle.lispheap.specs.Generating.{IsGenerate, Generates}
use Rattle.lispheap.specs.Journals.{IsJournal}
pub use Rattle.lispheap.specs.Streams.{Change, change, Failed, IsUntouched, SaysAll, StopsWithin}
use Rattle.lispheap.specs.Texts.{status_of, fault_text}

-- the words are one of the two forms of a replay
abbrev pub IsReplay : List (List ℕ) → Type 0
IsReplay words = (words ≡ codes "replay" ∷ []) ⊎ (words ≡ codes "replay" ∷ codes "--words" ∷ [])

-- the form of two words asks for the word steps
abbrev pub asks_for_steps : List (List ℕ) → Bool
asks_for_steps words = nat_lt 1 (length words)

-- how many bytes of input there may be
abbrev pub input_limit : ℕ
input_limit = MOST_BYTES

-- the source was read to its end, no call of it failed, and these were its bytes, not too many
pub record IsInput (source : Change) (bytes : List ℕ) : Type 0 where
  pub quiet : source.new.faults ≡ source.old.faults
  pub whole : GaveAll source.old.contents source.new.contents bytes
  pub within : length bytes ≤ input_limit

-- more bytes were taken than there may be, or not more
abbrev pub TookTooMany : Change → Type 0
TookTooMany source = GaveMore source.old.contents source.new.contents input_limit

abbrev pub TookNotTooMany : Change → Type 0
TookNotTooMany source = GaveAtMost source.old.contents source.new.contents input_limit

-- the source was read to its end, and a journal of what its bytes say was appended; which texts are its journals is asked
pub record Writes (journals : List ℕ → List ℕ → Type 0) (source out : Change) : Type 0 where
  pub input : List ℕ
  pub taken : IsInput source input
  pub text : List ℕ
  pub journal : journals input text
  pub written : SaysAll text out

-- the source was read to its end, and the output stopped within a journal of what its bytes say
pub record Stops (journals : List ℕ → List ℕ → Type 0) (source out : Change) : Type 0 where
  pub input : List ℕ
  pub taken : IsInput source input
  pub text : List ℕ
  pub journal : journals input text
  pub written : StopsWithin text out

-- the source was read to its end, and its bytes are no script, for this reason
pub record IsRefused (source : Change) (fault : ScriptFault) : Type 0 where
  pub input : List ℕ
  pub taken : IsInput source input
  pub read : read_script input ≡ Err fault

-- why no bytes were read: the source failed, too many bytes came, or memory ran out
abbrev pub IsUnread : Fault → Change → Type 0
IsUnread faults.Usage source = ⊥
IsUnread (faults.Line n why) source = ⊥
IsUnread faults.Read source = Failed source × TookNotTooMany source
IsUnread faults.Write source = ⊥
IsUnread faults.TooLong source = TookTooMany source
IsUnread (faults.Limit kind) source = ⊥
IsUnread faults.Memory source = TookNotTooMany source

-- why bytes give no journal: what reading says of them, or memory ran out
abbrev pub Refuses : Fault → Result Program ScriptFault → Type 0
Refuses faults.Usage read = ⊥
Refuses (faults.Line n why) read = read ≡ Err (LineFault n why)
Refuses faults.Read read = ⊥
Refuses faults.Write read = ⊥
Refuses faults.TooLong read = ⊥
Refuses (faults.Limit kind) read = (n : ℕ) × (read ≡ Err (LimitFault n kind))
Refuses faults.Memory read = Unit {0}

-- why a journal was not written: the output stopped within it
abbrev pub IsUnwritten : Fault → List ℕ → Change → Type 0
IsUnwritten faults.Usage text out = ⊥
IsUnwritten (faults.Line n why) text out = ⊥
IsUnwritten faults.Read text out = ⊥
IsUnwritten faults.Write text out = StopsWithin text out
IsUnwritten faults.TooLong text out = ⊥
IsUnwritten (faults.Limit kind) text out = ⊥
IsUnwritten faults.Memory text out = ⊥

-- how a run of a script ended, by what went wrong, if anything
abbrev pub Replays : (List ℕ → List ℕ → Type 0) → Option Fault → Change → Change → Type 0
Replays journals None source out = Writes journals source out
Replays journals (Some faults.Usage) source out = ⊥
Replays journals (Some (faults.Line n why)) source out = IsRefused source (LineFault n why) × IsUntouched out
Replays journals (Some faults.Read) source out = Failed source × TookNotTooMany source × IsUntouched out
Replays journals (Some faults.Write) source out = Stops journals source out
Replays journals (Some faults.TooLong) source out = TookTooMany source × IsUntouched out
Replays journals (Some (faults.Limit kind)) source out = ((n : ℕ) × IsRefused source (LimitFault n kind)) × IsUntouched out
Replays journals (Some faults.Memory) source out = TookNotTooMany source × IsUntouched out

-- the words are one of the forms that the program knows
abbrev pub IsForm : List (List ℕ) → Type 0
IsForm words = IsReplay words ⊎ IsGenerate words

-- how a call ended where both kinds of forms can end so
abbrev pub EndsEither : Option Fault → List (List ℕ) → Change → Change → Type 0
EndsEither fault words source out =
    (IsReplay words × Replays (IsJournal (asks_for_steps words)) fault source out) ⊎ (IsUntouched source × Generates words fault out)

-- How the call ended: the words are no form, and nothing was touched, or they are, and a replay ended so, or the
-- generator, which takes nothing from the source.
abbrev pub Ends : Option Fault → List (List ℕ) → Change → Change → Type 0
Ends None words source out = EndsEither None words source out
Ends (Some faults.Usage) words source out = (¬ IsForm words) × IsUntouched source × IsUntouched out
Ends (Some (faults.Line n why)) words source out = IsReplay words × Replays (IsJournal (asks_for_steps words)) (Some (faults.Line n why)) source out
Ends (Some faults.Read) words source out = IsReplay words × Replays (IsJournal (asks_for_steps words)) (Some faults.Read) source out
Ends (Some faults.Write) words source out = EndsEither (Some faults.Write) words source out
Ends (Some faults.TooLong) words source out = IsReplay words × Replays (IsJournal (asks_for_steps words)) (Some faults.TooLong) source out
Ends (Some (faults.Limit kind)) words source out = IsReplay words × Replays (IsJournal (asks_for_steps words)) (Some (faults.Limit kind)) source out
Ends (Some faults.Memory) words source out = EndsEither (Some faults.Memory) words source out

-- the text was appended, or the stream stopped within it
abbrev pub Says : List ℕ → Change → Type 0
Says text c = SaysAll text c ⊎ StopsWithin text c

-- what was said: nothing where all went well, and else the fault's line
abbrev pub Reports : Option Fault → Change → Type 0
Reports None err = IsUntouched err
Reports (Some fault) err = Says (fault_text fault) err

-- What a call answers: something went wrong or nothing did, and that tells the status, what was taken and written,
-- and what was said.
pub record Answers (words : List (List ℕ)) (source out err : Change) (status : ℕ) : Type 0 where
  pub fault : Option Fault
  pub ended : status ≡ status_of fault
  pub ends : Ends fault words source out
  pub reports : Reports fault err

-- the status that an input should have
abbrev pub status_read : Result Program ScriptFault → ℕ
status_read (Ok program) = 0
status_read (Err (LineFault n why)) = 3
status_read (Err (LimitFault n kind)) = 6

abbrev pub status_for : List ℕ → ℕ
status_for bytes = if nat_lt input_limit (length bytes) then 6 else status_read (read_script bytes)

-- Where the words are a form, the source tells its bytes, and neither it nor the output failed, the status is that
-- of the bytes, or memory ran out.
abbrev pub IsExact : List (List ℕ) → Change → Change → ℕ → Type 0
IsExact words source out status =
    (bytes : List ℕ) → IsReplay words → source.old.contents ≡ Some bytes → (¬ Failed source) → (¬ Failed out)
    → (status ≡ status_for bytes) ⊎ (status ≡ 7)
