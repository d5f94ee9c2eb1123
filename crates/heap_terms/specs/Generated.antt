-- The program that is generated of a seed. All of it is this project's own, but for the pseudo-random numbers: these are
-- Knuth's linear congruential generator for MMIX, of which the 31 high bits of each state are used.
use Rattle.std.specs.Prelude.{ℕ, ◌+◌, ◌-◌, ◌*◌, ◌/◌, ◌%◌, ◌^◌, ◌==◌, ◌&&◌, zero, suc, List, [], ◌∷◌, if◌then◌else◌, nat_lt}
use Rattle.heap_terms.specs.declared.cells.Cell.{Cell}
use Rattle.heap_terms.specs.declared.cells.Cell.TheVariants.{Stack, Exact, Shared}
use Rattle.heap_terms.specs.declared.cells.Raw.{Raw}
use Rattle.heap_terms.specs.declared.commands.Command.{Command}
use Rattle.heap_terms.specs.declared.commands.Command.TheVariants.{MakeNil, Move, NewCons, NewVector, NewInstance, NewWords, NewWeak, NewTable, Get, Put, Same, Addr, TablePut, TableGet, Finalize, Collect}
use Rattle.heap_terms.specs.declared.kinds.Weakness.{Weakness}
use Rattle.heap_terms.specs.declared.kinds.Weakness.TheVariants as weaknesses
use Rattle.heap_terms.specs.declared.limits.TheConstants.{CELLS}
use Rattle.heap_terms.specs.declared.programs.Program.{Program}
use Rattle.heap_terms.specs.Valid.{is_gc}

-- the state after one more draw
unfoldable pub next_state : ℕ → ℕ
next_state x = (x * 6364136223846793005 + 1442695040888963407) % 2 ^ 64

-- the state after so many draws
abbrev pub state_after : ℕ → ℕ → ℕ
state_after zero x = x
state_after (suc n) x = next_state (state_after n x)

-- the number below k that a state gives: its high bits, modulo k
unfoldable pub number_from : ℕ → ℕ → ℕ
number_from x k = (x / 2 ^ 33) % k

-- draw n after a state, from 1, below k
abbrev pub draw : ℕ → ℕ → ℕ → ℕ
draw x n k = number_from (state_after n x) k

-- the Lisp cells, numbered: the 16 cells `s`, then `b`, then `g`
abbrev pub cell_numbered : ℕ → Cell
cell_numbered j = if nat_lt j CELLS then Stack j else if nat_lt j (2 * CELLS) then Exact (j - CELLS) else Shared (j - 2 * CELLS)

-- a cell as draw n
abbrev pub cell_drawn : ℕ → ℕ → Cell
cell_drawn x n = cell_numbered (draw x n 48)

-- a raw cell as draw n
abbrev pub raw_drawn : ℕ → ℕ → Raw
raw_drawn x n = record { 0 = draw x n 8 }

-- the weaknesses, numbered as in a table's word
abbrev pub weakness_numbered : ℕ → Weakness
weakness_numbered n =
    if n == 0 then weaknesses.Strong
    else if n == 1 then weaknesses.Key
    else if n == 2 then weaknesses.Value
    else if n == 3 then weaknesses.KeyAndValue
    else weaknesses.KeyOrValue

-- a command, and how many draws its fields took
pub record Drawn : Type 0 where
  pub command : Command
  pub draws : ℕ

abbrev pub drawn : Command → ℕ → Drawn
drawn c n = record { command = c; draws = n }

-- The generated program has so many `gc` at most.
abbrev pub most_generated_gcs : ℕ
most_generated_gcs = 16

-- `gc g`, or `eq a b` for three of four, and where there are enough `gc`; the first draw decides
abbrev pub collects : ℕ → ℕ → Drawn
collects gcs x =
    if draw x 1 4 == 0 && nat_lt gcs most_generated_gcs then drawn (Collect (draw x 2 3)) 2
    else drawn (Same (cell_drawn x 2) (cell_drawn x 3)) 3

-- The command of each number below 20. Its fields are drawn from left to right, from state x on. So many `gc` come
-- before it.
unfoldable pub command_of : ℕ → ℕ → ℕ → Drawn
command_of gcs x q =
    if nat_lt q 6 then drawn (NewCons (cell_drawn x 1) (cell_drawn x 2) (cell_drawn x 3)) 3
    else if q == 6 then drawn (NewVector (cell_drawn x 1) (draw x 2 64)) 2
    else if q == 7 then drawn (NewInstance (cell_drawn x 1) (draw x 2 16)) 2
    else if q == 8 then drawn (NewWords (cell_drawn x 1) (draw x 2 32) (draw x 3 1000)) 3
    else if q == 9 then drawn (NewWeak (cell_drawn x 1) (cell_drawn x 2)) 2
    else if q == 10 then drawn (NewTable (cell_drawn x 1) (weakness_numbered (draw x 2 5)) (1 + draw x 3 8)) 3
    else if q == 11 then drawn (Get (cell_drawn x 1) (cell_drawn x 2) (draw x 3 2)) 3
    else if q == 12 then drawn (Put (cell_drawn x 1) (draw x 2 2) (cell_drawn x 3)) 3
    else if q == 13 then drawn (Move (cell_drawn x 1) (cell_drawn x 2)) 2
    else if q == 14 then drawn (MakeNil (cell_drawn x 1)) 1
    else if q == 15 then drawn (TablePut (cell_drawn x 1) (cell_drawn x 2) (cell_drawn x 3)) 3
    else if q == 16 then drawn (TableGet (cell_drawn x 1) (cell_drawn x 2) (cell_drawn x 3)) 3
    else if q == 17 then drawn (Addr (raw_drawn x 1) (cell_drawn x 2)) 2
    else if q == 18 then drawn (Finalize (cell_drawn x 1) (draw x 2 1000)) 2
    else collects gcs x

-- how far a generation is: the state of the draws, and how many `gc` there are
pub record Progress : Type 0 where
  pub state : ℕ
  pub gcs : ℕ

-- the next command: a first draw below 20 decides, and the others are its fields
abbrev pub next_drawn : Progress → Drawn
next_drawn g = command_of g.gcs (next_state g.state) (draw g.state 1 20)

-- the progress with one more command
unfoldable pub progressed : Progress → Progress
progressed g = record {
  state = state_after (next_drawn g).draws (next_state g.state);
  gcs = g.gcs + (if is_gc (next_drawn g).command then 1 else 0);
}

-- the next n commands, and the progress after them
unfoldable pub commands_from : ℕ → Progress → List Command
commands_from zero g = []
commands_from (suc n) g = (next_drawn g).command ∷ commands_from n (progressed g)

unfoldable pub progress_after : ℕ → Progress → Progress
progress_after zero g = g
progress_after (suc n) g = progress_after n (progressed g)

-- so many commands each of the generated program's threads has
abbrev pub commands_each : ℕ
commands_each = 400

-- the commands of n threads, one thread after the other
unfoldable pub threads_from : ℕ → Progress → List (List Command)
threads_from zero g = []
threads_from (suc n) g = commands_from commands_each g ∷ threads_from n (progress_after commands_each g)

-- the program of a seed: 64 pages, a collection each 4,096 words, and four threads of 400 commands without a schedule
unfoldable pub generated : ℕ → Program
generated seed = record {
  pages = 64;
  auto = 4096;
  threads = threads_from 4 (record { state = seed; gcs = 0 });
  schedule = [];
}
