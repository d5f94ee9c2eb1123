-- Reading a line: an event, but for a collection's passes, or a line of a pass, or the last line.
use Rattle.std.specs.Prelude.{ℕ, Bool, List, [], ◌∷◌, Option, Some, None, Result, if◌then◌else◌, bytes_eq, codes}
use Rattle.heap_terms.specs.declared.commands.Command.{Command}
use Rattle.heap_terms.specs.declared.events.Event.TheVariants as events
use Rattle.journal_text.specs.declared.parsing.faults.LineFault.{LineFault}
use Rattle.journal_text.specs.declared.parsing.pieces.Piece.{Piece}
use Rattle.journal_text.specs.declared.parsing.pieces.Piece.TheVariants as pieces
use Rattle.journal_text.specs.declared.parsing.records.Kind.{Kind}
use Rattle.journal_text.specs.declared.parsing.records.Kind.TheVariants as kinds
use Rattle.journal_text.specs.declared.parsing.records.Verb.{Verb}
use Rattle.journal_text.specs.declared.parsing.records.Verb.TheVariants as verbs
use Rattle.journal_text.specs.declared.parsing.rows.Shape.TheVariants as shapes
use Rattle.journal_text.specs.declared.parsing.words.Name.{Name}
use Rattle.journal_text.specs.AnswerReading.{Reads, a_number_64, ending, read_answer, the_word}
use Rattle.journal_text.specs.FieldReading.{a_name, a_number, a_type, a_value, an_index}
use Rattle.journal_text.specs.LineReading.{◌>>=◌, first, one, two, three, a_collected, a_count, a_generation_number, a_number_32, read_command}
use Rattle.journal_text.specs.Rows.{admits, may_answer}
use Rattle.journal_text.specs.Words.{command_word}

-- a thread, a page and a number of pages
abbrev pub a_thread : List ℕ → Option ℕ
a_thread field = a_number 7 field

abbrev pub a_page : List ℕ → Option ℕ
a_page field = a_number 1023 field

abbrev pub a_page_count : List ℕ → Option ℕ
a_page_count field = a_count 1024 field

-- the words of the lines that are no events
abbrev pub kind_text : Kind → List ℕ
kind_text kinds.Pass = codes "pass"
kind_text kinds.Move = codes "move"
kind_text kinds.Stay = codes "stay"
kind_text kinds.Pin = codes "pin"
kind_text kinds.Cull = codes "cull"
kind_text kinds.Break = codes "break"
kind_text kinds.Queue = codes "queue"
kind_text kinds.Free = codes "free"
kind_text kinds.Swept = codes "swept"
kind_text kinds.Done = codes "done"

unfoldable pub a_kind : List ℕ → Option Kind
a_kind field =
    if bytes_eq field (codes "pass") then Some kinds.Pass
    else if bytes_eq field (codes "move") then Some kinds.Move
    else if bytes_eq field (codes "stay") then Some kinds.Stay
    else if bytes_eq field (codes "pin") then Some kinds.Pin
    else if bytes_eq field (codes "cull") then Some kinds.Cull
    else if bytes_eq field (codes "break") then Some kinds.Break
    else if bytes_eq field (codes "queue") then Some kinds.Queue
    else if bytes_eq field (codes "free") then Some kinds.Free
    else if bytes_eq field (codes "swept") then Some kinds.Swept
    else if bytes_eq field (codes "done") then Some kinds.Done
    else None

abbrev pub verb_text : Verb → List ℕ
verb_text verbs.Open = codes "open"
verb_text verbs.Collect = codes "collect"
verb_text verbs.End = codes "end"

unfoldable pub a_verb : List ℕ → Option Verb
a_verb field =
    if bytes_eq field (codes "open") then Some verbs.Open
    else if bytes_eq field (codes "collect") then Some verbs.Collect
    else if bytes_eq field (codes "end") then Some verbs.End
    else None

-- the pieces of the fields
abbrev pub move : ℕ → ℕ → ℕ → Piece
move name old new = pieces.Move (record { name = name; old = old; new = Some new })

abbrev pub stay : ℕ → ℕ → Piece
stay name old = pieces.Move (record { name = name; old = old; new = None })

abbrev pub pin : ℕ → ℕ → Piece
pin name index = pieces.Pin (record { name = name; index = index })

unfoldable pub read_record : Kind → List (List ℕ) → Option (Piece × List (List ℕ))
read_record kinds.Pass fields = two a_collected a_generation_number pieces.Pass fields
read_record kinds.Move fields = three a_name an_index an_index move fields
read_record kinds.Stay fields = two a_name an_index stay fields
read_record kinds.Pin fields = two a_name an_index pin fields
read_record kinds.Cull fields = three a_name a_value a_value (λ table key value. pieces.Cull (record { table = table; key = key; value = value })) fields
read_record kinds.Break fields = one a_name pieces.Break fields
read_record kinds.Queue fields = one a_number_32 pieces.Queue fields
read_record kinds.Free fields = one a_page pieces.Free fields
read_record kinds.Swept fields = two a_number_32 a_number_32 pieces.Swept fields
read_record kinds.Done fields = one a_number_64 pieces.Done fields

unfoldable pub read_verb : Verb → ℕ → List (List ℕ) → Option (Piece × List (List ℕ))
read_verb verbs.Open t fields = three a_type a_page a_page_count (λ ty first k. pieces.Event (events.Opened t ty first k)) fields
read_verb verbs.Collect t fields = one a_collected (λ last. pieces.Collect t last) fields
read_verb verbs.End t fields = Some (pieces.Event (events.Ended t), fields)

-- the whole line
abbrev pub whole : Option (Piece × List (List ℕ)) → Option Piece
whole told = told >>= λ r. ending r.0 r.1

-- the same of a piece that was read
abbrev pub ReadsWhole : Option Piece → List (List ℕ) → Result Piece LineFault → Type 0
ReadsWhole None fields result = Reads None result
ReadsWhole (Some piece) fields result = Reads (ending piece fields) result

-- whether the command's answers are counts
abbrev pub counts : Command → Bool
counts c = admits c shapes.Count

-- a command and the arrow behind it
abbrev pub command_and_arrow : Name → List (List ℕ) → Option (Command × List (List ℕ))
command_and_arrow name fields = read_command name fields >>= λ c. first (the_word (codes "->")) c.1 >>= λ arrow. Some (c.0, arrow.1)

-- a command with its answer
unfoldable pub read_did : ℕ → Name → List (List ℕ) → Option Piece
read_did t name fields =
    command_and_arrow name fields >>= λ c. read_answer (counts c.0) c.1 >>= λ answer.
    if may_answer c.0 answer then Some (pieces.Event (events.Did t c.0 answer)) else None

abbrev pub read_command_line : ℕ → List ℕ → List (List ℕ) → Option Piece
read_command_line t field fields = command_word field >>= λ name. read_did t name fields

abbrev pub read_by_verb : Option Verb → ℕ → List ℕ → List (List ℕ) → Option Piece
read_by_verb (Some verb) t field fields = whole (read_verb verb t fields)
read_by_verb None t field fields = read_command_line t field fields

-- what a thread did
abbrev pub read_act : ℕ → List (List ℕ) → Option Piece
read_act t [] = None
read_act t (field ∷ fields) = read_by_verb (a_verb field) t field fields

abbrev pub read_by_kind : Option Kind → List ℕ → List (List ℕ) → Option Piece
read_by_kind (Some kind) field fields = whole (read_record kind fields)
read_by_kind None field fields = a_thread field >>= λ t. read_act t fields

unfoldable pub read_line : List (List ℕ) → Option Piece
read_line [] = None
read_line (field ∷ fields) = read_by_kind (a_kind field) field fields
