-- What the lines so far have left open, and what one more line makes of it.
use Rattle.std.specs.Prelude.{◌≡◌, Result, Ok, Err, ℕ, Bool, ◌&&◌, List, [], ◌∷◌, ◌++◌, length, Option, Some, None, if◌then◌else◌, nat_le, ◌==◌}
use Rattle.heap_terms.specs.declared.events.Cull.{Cull}
use Rattle.heap_terms.specs.declared.events.Event.{Event}
use Rattle.heap_terms.specs.declared.events.Event.TheVariants.{Collected}
use Rattle.heap_terms.specs.declared.events.PassRecord.{PassRecord}
use Rattle.heap_terms.specs.declared.events.PinAt.{PinAt}
use Rattle.heap_terms.specs.declared.events.Placing.{Placing}
use Rattle.journal_text.specs.declared.parsing.faults.LineFault.{LineFault}
use Rattle.journal_text.specs.declared.parsing.faults.LineFault.TheVariants as faults
use Rattle.journal_text.specs.declared.parsing.pieces.Piece.{Piece}
use Rattle.journal_text.specs.declared.parsing.pieces.Piece.TheVariants as pieces
use Rattle.journal_text.specs.declared.parsing.stages.Stage.{Stage}
use Rattle.journal_text.specs.declared.parsing.stages.Stage.TheVariants as stages
use Rattle.std.specs.List.{slice_split}
use Rattle.journal_text.specs.Cursors.{is_space}
use Rattle.journal_text.specs.Journals.{HasNoLf}
use Rattle.journal_text.specs.LineReading.{◌>>=◌}
use Rattle.journal_text.specs.PieceReading.{read_line}

-- the events that are whole, and the collection and the pass that may be open
pub record State : Type 0 where
  pub events : List Event
  pub stage : Stage
  pub thread : ℕ
  pub last : ℕ
  pub passes : List PassRecord
  pub pass : PassRecord

-- how far a pass has come
abbrev pub rank : Stage → ℕ
rank stages.Between = 0
rank stages.Collecting = 0
rank stages.Moves = 1
rank stages.Pins = 2
rank stages.Culls = 3
rank stages.Breaks = 4
rank stages.Queued = 5
rank stages.Freed = 6
rank stages.Done = 0

abbrev pub is_open : Stage → Stage → Bool
is_open stage last = nat_le 1 (rank stage) && nat_le (rank stage) (rank last)

-- a pass with no entry yet
abbrev pub fresh : ℕ → ℕ → PassRecord
fresh g target = record { generation = g; target = target; moves = []; pins = []; culls = []; breaks = []; queued = []; freed = []; dead = 0; kept = 0 }

-- the events, with the collection that is open
abbrev pub closed_by : Stage → State → Option (List Event)
closed_by stages.Between s = Some s.events
closed_by stages.Collecting s = Some (s.events ++ Collected s.thread s.last s.passes ∷ [])
closed_by stages.Moves s = None
closed_by stages.Pins s = None
closed_by stages.Culls s = None
closed_by stages.Breaks s = None
closed_by stages.Queued s = None
closed_by stages.Freed s = None
closed_by stages.Done s = None

abbrev pub closed : State → Option (List Event)
closed s = closed_by s.stage s

-- where nothing is open
abbrev pub between : List Event → State → State
between events s = record { events = events; stage = stages.Between; thread = s.thread; last = s.last; passes = []; pass = s.pass }

abbrev pub collecting : List Event → ℕ → ℕ → State → State
collecting events t last s = record { events = events; stage = stages.Collecting; thread = t; last = last; passes = []; pass = s.pass }

-- the pass that is open, changed
abbrev pub with_pass : Stage → PassRecord → State → State
with_pass stage pass s = record { events = s.events; stage = stage; thread = s.thread; last = s.last; passes = s.passes; pass = pass }

abbrev pub opened_pass : Stage → ℕ → ℕ → State → Option State
opened_pass stages.Collecting g target s = Some (with_pass stages.Moves (fresh g target) s)
opened_pass stages.Between g target s = None
opened_pass stages.Moves g target s = None
opened_pass stages.Pins g target s = None
opened_pass stages.Culls g target s = None
opened_pass stages.Breaks g target s = None
opened_pass stages.Queued g target s = None
opened_pass stages.Freed g target s = None
opened_pass stages.Done g target s = None

abbrev pub with_moves : List Placing → PassRecord → PassRecord
with_moves moves r = record { generation = r.generation; target = r.target; moves = moves; pins = r.pins; culls = r.culls; breaks = r.breaks; queued = r.queued; freed = r.freed; dead = r.dead; kept = r.kept }

abbrev pub with_pins : List PinAt → PassRecord → PassRecord
with_pins pins r = record { generation = r.generation; target = r.target; moves = r.moves; pins = pins; culls = r.culls; breaks = r.breaks; queued = r.queued; freed = r.freed; dead = r.dead; kept = r.kept }

abbrev pub with_culls : List Cull → PassRecord → PassRecord
with_culls culls r = record { generation = r.generation; target = r.target; moves = r.moves; pins = r.pins; culls = culls; breaks = r.breaks; queued = r.queued; freed = r.freed; dead = r.dead; kept = r.kept }

abbrev pub with_breaks : List ℕ → PassRecord → PassRecord
with_breaks breaks r = record { generation = r.generation; target = r.target; moves = r.moves; pins = r.pins; culls = r.culls; breaks = breaks; queued = r.queued; freed = r.freed; dead = r.dead; kept = r.kept }

abbrev pub with_queued : List ℕ → PassRecord → PassRecord
with_queued queued r = record { generation = r.generation; target = r.target; moves = r.moves; pins = r.pins; culls = r.culls; breaks = r.breaks; queued = queued; freed = r.freed; dead = r.dead; kept = r.kept }

abbrev pub with_freed : List ℕ → PassRecord → PassRecord
with_freed freed r = record { generation = r.generation; target = r.target; moves = r.moves; pins = r.pins; culls = r.culls; breaks = r.breaks; queued = r.queued; freed = freed; dead = r.dead; kept = r.kept }

abbrev pub with_swept : ℕ → ℕ → PassRecord → PassRecord
with_swept dead kept r = record { generation = r.generation; target = r.target; moves = r.moves; pins = r.pins; culls = r.culls; breaks = r.breaks; queued = r.queued; freed = r.freed; dead = dead; kept = kept }

-- the pass is over
abbrev pub swept : ℕ → ℕ → State → State
swept dead kept s = record { events = s.events; stage = stages.Collecting; thread = s.thread; last = s.last; passes = s.passes ++ with_swept dead kept s.pass ∷ []; pass = fresh 0 0 }

abbrev pub done : List Event → State → State
done events s = record { events = events; stage = stages.Done; thread = s.thread; last = s.last; passes = []; pass = s.pass }

-- one more line; none where it may not stand there
abbrev pub add : State → Piece → Option State
add s (pieces.Event e) = closed s >>= λ events. Some (between (events ++ e ∷ []) s)
add s (pieces.Collect t last) = closed s >>= λ events. Some (collecting events t last s)
add s (pieces.Pass g target) = opened_pass s.stage g target s
add s (pieces.Move m) = if is_open s.stage stages.Moves then Some (with_pass stages.Moves (with_moves (s.pass.moves ++ m ∷ []) s.pass) s) else None
add s (pieces.Pin q) = if is_open s.stage stages.Pins then Some (with_pass stages.Pins (with_pins (s.pass.pins ++ q ∷ []) s.pass) s) else None
add s (pieces.Cull k) = if is_open s.stage stages.Culls then Some (with_pass stages.Culls (with_culls (s.pass.culls ++ k ∷ []) s.pass) s) else None
add s (pieces.Break name) = if is_open s.stage stages.Breaks then Some (with_pass stages.Breaks (with_breaks (s.pass.breaks ++ name ∷ []) s.pass) s) else None
add s (pieces.Queue id) = if is_open s.stage stages.Queued then Some (with_pass stages.Queued (with_queued (s.pass.queued ++ id ∷ []) s.pass) s) else None
add s (pieces.Free page) = if is_open s.stage stages.Freed then Some (with_pass stages.Freed (with_freed (s.pass.freed ++ page ∷ []) s.pass) s) else None
add s (pieces.Swept dead kept) = if is_open s.stage stages.Freed then Some (swept dead kept s) else None
add s (pieces.Done n) = closed s >>= λ events. if length events == n then Some (done events s) else None

-- lines one after the other
abbrev pub run : State → List Piece → Option State
run s [] = Some s
run s (p ∷ ps) = add s p >>= λ t. run t ps

-- no line was read yet
abbrev pub start : State
start = record { events = []; stage = stages.Between; thread = 0; last = 0; passes = []; pass = fresh 0 0 }

-- what a call with one more line answers
abbrev pub Adds : Option State → State → Result (Unit {0}) LineFault → Type 0
Adds told new (Ok x) = told ≡ Some new
Adds told new (Err faults.Form) = told ≡ None
Adds told new (Err faults.Memory) = Unit {0}

-- the collection that may be open became an event; what else stands is as it was
pub record Same (old new : State) : Type 0 where
  pub events : closed old ≡ Some new.events
  pub thread : new.thread ≡ old.thread
  pub last : new.last ≡ old.last
  pub pass : new.pass ≡ old.pass

abbrev pub Closed : State → State → Result (Unit {0}) LineFault → Type 0
Closed old new (Ok x) = Same old new
Closed old new (Err faults.Form) = closed old ≡ None
Closed old new (Err faults.Memory) = Unit {0}

-- the same of the line as it was read
abbrev pub AddsLine : State → Option Piece → State → Result (Unit {0}) LineFault → Type 0
AddsLine old told new result = Adds (told >>= λ piece. add old piece) new result

-- the first line of the bytes was taken, and these stand behind it
pub record TakesLine (old : State) (bytes after : List ℕ) (new : State) : Type 0 where
  pub content : List ℕ
  pub text : bytes ≡ content ++ 10 ∷ after
  pub adds : (read_line (slice_split is_space content) >>= λ piece. add old piece) ≡ Some new

-- the first line of the bytes was not taken
pub record StopsAt (old : State) (bytes : List ℕ) (new : State) (fault : LineFault) : Type 0 where
  pub content : List ℕ
  pub after : List ℕ
  pub text : bytes ≡ content ++ 10 ∷ after
  pub plain : HasNoLf content
  pub adds : AddsLine old (read_line (slice_split is_space content)) new (Err fault)
