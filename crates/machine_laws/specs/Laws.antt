-- Laws of the word machine, each for every program and every order of turns. They speak of collections too.
use Rattle.std.specs.Prelude.{◌≡◌, ◌≢◌, ℕ, ◌<◌, ◌≤◌, ◌⊎◌, List, length, All, true, false}
use Rattle.std.specs.List.{range_with_len}
use Rattle.heap_terms.specs.declared.events.Event.{Event}
use Rattle.heap_terms.specs.declared.phases.Phase.TheVariants as phases
use Rattle.heap_terms.specs.declared.programs.Program.{Program}
use Rattle.heap_terms.specs.declared.steps.ReplayLine.{ReplayLine}
use Rattle.heap_terms.specs.declared.steps.WordStep.{WordStep}
use Rattle.heap_terms.specs.Complete.{IsComplete}
use Rattle.heap_terms.specs.Heap.{thread_at}
use Rattle.heap_terms.specs.Histories.{replay}
use Rattle.heap_terms.specs.MachineTurns.{Configuration, machine_start, phase_of, is_due, IsTurn}
use Rattle.heap_terms.specs.declared.phases.Task.TheVariants.{Walk}
use Rattle.heap_terms.specs.Phases.{task_at}
use Rattle.heap_terms.specs.Runs.{AreTurns, IsRun}
use Rattle.heap_terms.specs.WordMachine.{has, MayStep}
use Rattle.heap_laws.specs.Limited.{IsLimited}
use Rattle.machine_laws.specs.Measure.{measure}
use Rattle.machine_laws.specs.Orderly.{IsOrderly, word_in}

-- the first configuration of a program is orderly, and each turn of one of its threads keeps it so
abbrev pub TurnsKeepOrder : Type 0
TurnsKeepOrder =
    ((p : Program) → IsOrderly p (machine_start p))
    × ((p : Program) (t : ℕ) (old new : Configuration) (lines : List ReplayLine) → IsLimited p → IsOrderly p old → t < length p.threads →
    IsTurn p t old lines new → IsOrderly p new)

-- so that many turns of its threads do
abbrev pub ManyTurnsKeepOrder : Type 0
ManyTurnsKeepOrder = (p : Program) (ts : List ℕ) (new : Configuration) (lines : List ReplayLine) → IsLimited p → All (λ t. t < length p.threads) ts →
    AreTurns p ts (machine_start p) lines new → IsOrderly p new

-- each word step is one that its thread may do
abbrev pub StepsMayBeDone : Type 0
StepsMayBeDone = (p : Program) (t : ℕ) (step : WordStep) (c : Configuration) → IsOrderly p c → t < length p.threads →
    task_at (phase_of c t) (is_due p c.history t) ≡ Walk step → MayStep t step c.turn c.words

-- While thread h collects, a stop stands in the word of every other thread, which is parked and in no section; nobody
-- inhibits, and the collection is due for thread h.
pub record IsAlone (p : Program) (c : Configuration) (h : ℕ) : Type 0 where
  pub stopped : (u : ℕ) → u < length p.threads → u ≢ h → has 2 (word_in c u) ≡ true
  pub parked : (u : ℕ) → u < length p.threads → u ≢ h → has 4 (word_in c u) ≡ true
  pub outside : (u : ℕ) → u < length p.threads → u ≢ h → has 1 (word_in c u) ≡ false
  pub allowed : (t : ℕ) → (thread_at (replay p c.history) t).inhibits ≡ 0
  pub due : is_due p c.history h ≡ true

abbrev pub CollectorsAreAlone : Type 0
CollectorsAreAlone = (p : Program) (c : Configuration) (h : ℕ) → IsLimited p → IsOrderly p c → h < length p.threads → phase_of c h ≡ phases.Collecting → IsAlone p c h

-- no turn makes more of what is left of a run, and a whole round of all threads makes less of it or all are at their ends:
-- so that every run ends
abbrev pub RoundsEnd : Type 0
RoundsEnd =
    ((p : Program) (ts : List ℕ) (old new : Configuration) (lines : List ReplayLine) → IsLimited p → IsOrderly p old → All (λ t. t < length p.threads) ts →
    AreTurns p ts old lines new → measure p new ≤ measure p old)
    × ((p : Program) (old new : Configuration) (lines : List ReplayLine) → IsLimited p → IsOrderly p old →
    AreTurns p (range_with_len 0 (length p.threads)) old lines new → (measure p new < measure p old) ⊎ ((t : ℕ) → phase_of old t ≡ phases.Ended))

-- the history of a run is complete: lawful, and each thread has ended in it
abbrev pub RunsAreComplete : Type 0
RunsAreComplete = (p : Program) (lines : List ReplayLine) (h : List Event) → IsLimited p → All (λ t. t < length p.threads) p.schedule → IsRun p lines h → IsComplete p h
