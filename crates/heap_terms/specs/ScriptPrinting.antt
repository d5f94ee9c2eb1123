-- The text of a program: each field with one space before it, numbers without leading zeros, always an `auto` line, and
-- the turns of the schedule in runs. The form is this project's own.
use Rattle.std.specs.Prelude.{ℕ, ◌+◌, ◌/◌, ◌%◌, List, [], ◌∷◌, ◌++◌, ◌==◌, flat_map, replicate, if◌then◌else◌, codes, decimal}
use Rattle.heap_terms.specs.declared.commands.Command.{Command}
use Rattle.heap_terms.specs.declared.limits.TheConstants.{MOST_TURNS_IN_A_ROW}
use Rattle.heap_terms.specs.declared.programs.Program.{Program}
use Rattle.heap_terms.specs.Text.{command_text, field, line, number_field}

-- so many turns in a row of one thread
pub record TurnRun : Type 0 where
  pub thread : ℕ
  pub count : ℕ

-- the runs of turns with one more turn before them
abbrev pub with_turn : ℕ → List TurnRun → List TurnRun
with_turn t [] = record { thread = t; count = 1 } ∷ []
with_turn t (r ∷ runs) = if t == r.thread then record r { count = r.count + 1 } ∷ runs else record { thread = t; count = 1 } ∷ r ∷ runs

-- the maximal runs of equal turns
unfoldable pub runs_of : List ℕ → List TurnRun
runs_of [] = []
runs_of (t ∷ ts) = with_turn t (runs_of ts)

-- a run in pieces of 65,535 turns and a rest
abbrev pub pieces_of : TurnRun → List TurnRun
pieces_of r =
    replicate (r.count / MOST_TURNS_IN_A_ROW) (record r { count = MOST_TURNS_IN_A_ROW })
    ++ (if r.count % MOST_TURNS_IN_A_ROW == 0 then [] else record r { count = r.count % MOST_TURNS_IN_A_ROW } ∷ [])

-- `t`, or `t*k` for k turns in a row
abbrev pub run_text : TurnRun → List ℕ
run_text r = if r.count == 1 then decimal r.thread else decimal r.thread ++ codes "*" ++ decimal r.count

-- the pieces of all runs of a schedule
abbrev pub pieces_in : List ℕ → List TurnRun
pieces_in turns = flat_map pieces_of (runs_of turns)

-- the line of a schedule; there is none where it has no turns
abbrev pub schedule_text : List ℕ → List ℕ
schedule_text [] = []
schedule_text (t ∷ ts) = line (codes "schedule" ++ flat_map (λ (r : TurnRun). field (run_text r)) (pieces_in (t ∷ ts)))

-- the block of a thread
abbrev pub thread_text : List Command → List ℕ
thread_text cs = line (codes "thread") ++ flat_map (λ c. line (command_text c)) cs

-- the whole script
abbrev pub program_text : Program → List ℕ
program_text p =
    line (codes "lispheap 1") ++ line (codes "heap" ++ number_field p.pages) ++ line (codes "auto" ++ number_field p.auto)
    ++ flat_map thread_text p.threads ++ schedule_text p.schedule ++ line (codes "end")
