-- Runs of a program: the turns that its schedule gives, and then all threads in turn until each has ended. That a
-- schedule decides in which order threads go on is this project's own.
use Rattle.std.specs.Prelude.{◌≡◌, ℕ, zero, suc, List, [], ◌∷◌, ◌++◌, length}
use Rattle.std.specs.List.{range_with_len}
use Rattle.heap_terms.specs.declared.events.Event.{Event}
use Rattle.heap_terms.specs.declared.phases.Phase.TheVariants as phases
use Rattle.heap_terms.specs.declared.programs.Program.{Program}
use Rattle.heap_terms.specs.declared.steps.ReplayLine.{ReplayLine}
use Rattle.heap_terms.specs.MachineTurns.{Configuration, machine_start, phase_of, IsTurn}

-- the first turn of several: where it leads, its lines, and those of the others
pub record IsFirst (p : Program) (t : ℕ) (old : Configuration) (lines : List ReplayLine) (between : Configuration) (rest : List ReplayLine) : Type 0 where
  pub own : List ReplayLine
  pub turn : IsTurn p t old own between
  pub joined : lines ≡ own ++ rest

-- the turns of a list of threads, one after the other, with their lines
abbrev pub AreTurns : Program → List ℕ → Configuration → List ReplayLine → Configuration → Type 0
AreTurns p [] old lines new = (lines ≡ []) × (new ≡ old)
AreTurns p (t ∷ ts) old lines new =
    (between : Configuration) × (rest : List ReplayLine) × IsFirst p t old lines between rest × AreTurns p ts between rest new

-- so many whole rounds of n threads: 0, 1, .. in turn, again and again
abbrev pub rounds_of : ℕ → ℕ → List ℕ
rounds_of n zero = []
rounds_of n (suc k) = rounds_of n k ++ range_with_len 0 n

-- A run of a program has these lines and this history: the turns of the schedule and then some whole rounds of all
-- threads do just these lines, the history is what has happened then, and every thread is at its end. (In a round a
-- thread that has ended does nothing, so it makes no difference in which turn the last of them ended.)
pub record IsRun (p : Program) (lines : List ReplayLine) (h : List Event) : Type 0 where
  pub rounds : ℕ
  pub last : Configuration
  pub turns : AreTurns p (p.schedule ++ rounds_of (length p.threads) rounds) (machine_start p) lines last
  pub history : last.history ≡ h
  pub ended : (t : ℕ) → phase_of last t ≡ phases.Ended
