-- One turn of a machine, from what its parts did.
use Rattle.std.proofs.Common.{◌≡◌, ◌≢◌, ℕ, ◌<◌, ◌↔◌, List, [], ◌∷◌, length, Bool, true, false, inl, inr, refl, sym, ◌∙◌, ap, subst, set, get_or, ◌-◌}
use Rattle.std.proofs.lemmas.Bool.{false≢true}
use Rattle.std.proofs.lemmas.List.{set-get_or}
use Rattle.std.specs.Prelude.{◌==◌, if◌then◌else◌}
use Rattle.heap_terms.specs.declared.phases.Phase.{Phase}
use Rattle.heap_terms.specs.declared.phases.Phase.TheVariants.{Parked, Outside, Inside, Leaving, Parking, Posting, Looking, Collecting, Releasing, Returning, Ended}
use Rattle.heap_terms.specs.declared.phases.Task.{Task}
use Rattle.heap_terms.specs.declared.phases.Task.TheVariants.{Walk, Happen, Rest}
use Rattle.heap_terms.specs.declared.programs.Program.{Program}
use Rattle.heap_terms.specs.declared.steps.ReplayLine.{ReplayLine}
use Rattle.heap_terms.specs.declared.steps.ReplayLine.TheVariants as replay_lines
use Rattle.heap_terms.specs.declared.steps.StepAnswer.{StepAnswer}
use Rattle.heap_terms.specs.declared.steps.StepAnswer.TheVariants as answers
use Rattle.heap_terms.specs.declared.steps.WordStep.{WordStep}
use Rattle.heap_terms.specs.declared.steps.WordStep.TheVariants.{Resume, Enter, Leave, Park, Claim, Post, Look, Release, Return}
use Rattle.heap_terms.specs.Heap.{thread_at}
use Rattle.heap_terms.specs.Histories.{replay}
use Rattle.heap_terms.specs.MachineTurns.{Configuration, phase_of, is_due, has_ended, stays_inside, answer_in, step_lines, IsTurn, Does, Walks, HasEvent}
use Rattle.heap_terms.specs.Phases.{collects, task_at, walked, happened, releasing_from, went}
use Rattle.heap_terms.specs.Valid.{IsValid}
use Rattle.heap_terms.specs.WordMachine.{has, words_after, answer_at, answer}
use Rattle.heap_laws.proofs.EventSteps.{limited}
use Rattle.lisp_heap.specs.Events.{Happens}
use Rattle.lisp_heap.specs.View.{View, heap_of, next_of}
use Rattle.machine_laws.specs.Orderly.{IsOrderly, word_in}
use Rattle.machine_laws.proofs.EventFacts.{over_is}
use Rattle.machine_laws.proofs.FitsKept.{turn_orderly}
use Rattle.machine_laws.proofs.Steps.{parked_word}
use Rattle.replay_core.specs.MachineView.{MachineView, program_of, configuration_of}
use Rattle.heap_turns.specs.Turns.{HappensInside}
use Rattle.replay_core.specs.Stepping.{StepDone, EventDone, TurnDone, IsWaiting, IsWaitingAt}

-- a machine's view, from its parts
abbrev pub seen : View → ℕ → List ℕ → List Phase → MachineView
seen w turn words phases = record { world = w; turn = turn; words = words; phases = phases }

-- a word step, from its parts
pub step_done : (w : View) (turn turn' : ℕ) (words words' : List ℕ) (phases phases' : List Phase) (t n : ℕ) (step : WordStep) (ph q : Phase) (due over gone : Bool) (found : StepAnswer) →
    n ≡ length w.program.threads → phase_of (configuration_of (seen w turn words phases)) t ≡ ph → due ≡ collects (next_of w t) → over ≡ (thread_at (heap_of w) t).ended →
    (turn' ∷ words') ≡ words_after t step (turn ∷ words) → found ≡ answer_at t step (turn ∷ words) → gone ≡ went found → q ≡ walked n t ph due over gone →
    phases' ≡ set phases t q → StepDone t step (seen w turn words phases) (seen w turn' words' phases') found
step_done w turn turn' words words' phases phases' t n step ph q due over gone found threads at is_due_now is_over_now words_are found_is gone_is q_is phases_are =
    let m = seen w turn words phases in
    let p = w.program in
    let over_now : over ≡ has_ended p w.history t = is_over_now ∙ sym (over_is p (heap_of w) t) in
    let e : q ≡ walked (length p.threads) t (phase_of (configuration_of m) t) (is_due p w.history t) (has_ended p w.history t) (went (answer_in (configuration_of m) t step)) =
    q_is
    ∙ ap (λ (x : ℕ). walked x t ph due over gone) threads
    ∙ ap (λ (x : Phase). walked (length p.threads) t x due over gone) (sym at)
    ∙ ap (λ (x : Bool). walked (length p.threads) t (phase_of (configuration_of m) t) x over gone) is_due_now
    ∙ ap (λ (x : Bool). walked (length p.threads) t (phase_of (configuration_of m) t) (is_due p w.history t) x gone) over_now
    ∙ ap (λ (x : Bool). walked (length p.threads) t (phase_of (configuration_of m) t) (is_due p w.history t) (has_ended p w.history t) x) (gone_is ∙ ap went found_is) in
    record {
      world = refl;
      walks = record {
        words = words_are;
        phases = phases_are ∙ ap (λ (x : Phase). set phases t x) e;
        history = refl;
        shown = ap (λ (x : StepAnswer). step_lines t step x) found_is;
      };
      found_is = found_is;
    }

-- a turn, from its task
pub walk_is_turn : (p : Program) (t : ℕ) (step : WordStep) (old new : Configuration) (lines : List ReplayLine) → task_at (phase_of old t) (is_due p old.history t) ≡ Walk step →
    Walks p t step old lines new → IsTurn p t old lines new
walk_is_turn p t step old new lines task w = subst (λ (x : Task). Does p t x old lines new) (sym task) w

pub event_is_turn : (p : Program) (t : ℕ) (old new : Configuration) (lines : List ReplayLine) → task_at (phase_of old t) (is_due p old.history t) ≡ Happen →
    HasEvent p t old lines new → IsTurn p t old lines new
event_is_turn p t old new lines task d = subst (λ (x : Task). Does p t x old lines new) (sym task) d

-- what a thread does, by its phase as it was read
pub task_of : (m : MachineView) (t : ℕ) (ph : Phase) (task : Task) → phase_of (configuration_of m) t ≡ ph → task_at ph (is_due (program_of m) m.world.history t) ≡ task →
    task_at (phase_of (configuration_of m) t) (is_due (program_of m) m.world.history t) ≡ task
task_of m t ph task at is = ap (λ (x : Phase). task_at x (is_due (program_of m) m.world.history t)) at ∙ is

-- the configuration stays orderly
pub walk_orderly : (m new : MachineView) (t : ℕ) (step : WordStep) (found : StepAnswer) → IsValid (program_of m) → IsOrderly (program_of m) (configuration_of m) → t < length (program_of m).threads →
    task_at (phase_of (configuration_of m) t) (is_due (program_of m) m.world.history t) ≡ Walk step → StepDone t step m new found → IsOrderly (program_of m) (configuration_of new)
walk_orderly m new t step found valid o l task d =
    turn_orderly (program_of m) t (configuration_of m) (configuration_of new) (step_lines t step found) (limited (program_of m) valid) o l
    (walk_is_turn (program_of m) t step (configuration_of m) (configuration_of new) (step_lines t step found) task d.walks)

-- an event inside a section, from its parts
pub inside_done : (old new : View) (turn : ℕ) (words : List ℕ) (phases phases' : List Phase) (t : ℕ) (stays : Bool) → HappensInside t old new stays →
    phase_of (configuration_of (seen old turn words phases)) t ≡ Inside → phases' ≡ set phases t (if stays then Inside else Leaving) →
    EventDone t (seen old turn words phases) (seen new turn words phases')
inside_done old new turn words phases phases' t stays d at phases_are =
    let m = seen old turn words phases in
    let h = d.happens in
    let n = length old.program.threads in
    let same_heap : stays ≡ stays_inside (replay old.program new.history) h.event = d.goes_on ∙ ap (λ (p : Program). stays_inside (replay p new.history) h.event) h.program in
    record {
      program = h.program;
      event = record {
        event = h.event;
        thread = h.thread;
        lawful = h.lawful;
        history = h.history;
        turn = refl;
        words = refl;
        phases = phases_are
            ∙ ap (λ (b : Bool). set phases t (happened n t Inside b)) same_heap
            ∙ ap (λ (x : Phase). set phases t (happened n t x (stays_inside (replay old.program new.history) h.event))) (sym at);
        shown = refl;
      };
    }

-- where a section goes on its thread's phase is written again
pub stays_written : (phases : List Phase) (t : ℕ) (m : MachineView) → m.phases ≡ phases → phase_of (configuration_of m) t ≡ Inside → phases ≡ set phases t Inside
stays_written phases t m same at =
    sym (ap (λ (x : Phase). set phases t x) (sym at ∙ ap (λ (ps : List Phase). get_or ps t Ended) same) ∙ set-get_or phases t Ended)

pub event_orderly : (m new : MachineView) (t : ℕ) → IsValid (program_of m) → IsOrderly (program_of m) (configuration_of m) → t < length (program_of m).threads →
    task_at (phase_of (configuration_of m) t) (is_due (program_of m) m.world.history t) ≡ Happen → EventDone t m new → IsOrderly (program_of new) (configuration_of new)
event_orderly m new t valid o l task d = subst (λ (p : Program). IsOrderly p (configuration_of new)) (sym d.program)
    (turn_orderly (program_of m) t (configuration_of m) (configuration_of new) _ (limited (program_of m) valid) o l
    (event_is_turn (program_of m) t (configuration_of m) (configuration_of new) _ task d.event))

-- what a turn's answer says
pub step_turn : (m new : MachineView) (t : ℕ) (step : WordStep) (found : StepAnswer) → task_at (phase_of (configuration_of m) t) (is_due (program_of m) m.world.history t) ≡ Walk step →
    StepDone t step m new found → TurnDone t (step_lines t step found) m new
step_turn m new t step found task d = record {
  program = ap (λ (w : View). w.program) d.world;
  turn = walk_is_turn (program_of m) t step (configuration_of m) (configuration_of new) (step_lines t step found) task d.walks;
}

pub event_turn : (m new : MachineView) (t : ℕ) → task_at (phase_of (configuration_of m) t) (is_due (program_of m) m.world.history t) ≡ Happen →
    EventDone t m new → TurnDone t (replay_lines.Event (length m.world.history) ∷ []) m new
event_turn m new t task d = record {
  program = d.program;
  turn = event_is_turn (program_of m) t (configuration_of m) (configuration_of new) (replay_lines.Event (length m.world.history) ∷ []) task d.event;
}

-- a step waits just where its thread does
pub waits_if : (p : Program) (t : ℕ) (step : WordStep) (c : Configuration) → IsOrderly p c → t < length p.threads → task_at (phase_of c t) (is_due p c.history t) ≡ Walk step →
    (answer_in c t step ≡ answers.NotYet) ↔ IsWaiting c t
waits_if p t step c o l task = by_phase (phase_of c t) (is_due p c.history t) refl task
  where
    by_phase : (ph : Phase) (due : Bool) → phase_of c t ≡ ph → task_at ph due ≡ Walk step → (answer_in c t step ≡ answers.NotYet) ↔ IsWaitingAt c t ph
    by_phase Parked due at task =
        let is : Resume ≡ step = cc in
        subst (λ (s : WordStep). (answer_in c t s ≡ answers.NotYet) ↔ IsWaitingAt c t Parked) is (elim (parked_word p t c o l at) [
          | inl four ↦ (
            (λ e. let never : answers.Went ≡ answers.NotYet = ap (λ (x : ℕ). answer Resume x) (sym four) ∙ e in cc),
            λ h. absurd (false≢true (ap (λ (x : ℕ). has 2 x) (sym four) ∙ h)),
          )
          | inr six ↦ ((λ e. ap (λ (x : ℕ). has 2 x) six), λ h. ap (λ (x : ℕ). answer Resume x) six)
        ])
    by_phase Outside true at task =
        let is : Claim ≡ step = cc in
        subst (λ (s : WordStep). (answer_in c t s ≡ answers.NotYet) ↔ ⊥) is ((λ e. claims (c.turn == 0) e), λ h. absurd h)
      where
        claims : (b : Bool) → (if b then answers.Went else answers.Taken (c.turn - 1)) ≡ answers.NotYet → ⊥
        claims true e = cc
        claims false e = cc
    by_phase Outside false at task =
        let is : Enter ≡ step = cc in
        subst (λ (s : WordStep). (answer_in c t s ≡ answers.NotYet) ↔ ⊥) is ((λ e. enters (word_in c t == 0) e), λ h. absurd h)
      where
        enters : (b : Bool) → (if b then answers.Went else answers.StopFound) ≡ answers.NotYet → ⊥
        enters true e = cc
        enters false e = cc
    by_phase Inside due at task = cc
    by_phase Leaving due at task =
        let is : Leave ≡ step = cc in
        subst (λ (s : WordStep). (answer_in c t s ≡ answers.NotYet) ↔ ⊥) is ((λ e. leaves (has 2 (word_in c t)) e), λ h. absurd h)
      where
        leaves : (b : Bool) → (if b then answers.StopFound else answers.Went) ≡ answers.NotYet → ⊥
        leaves true e = cc
        leaves false e = cc
    by_phase Parking due at task =
        let is : Park ≡ step = cc in
        subst (λ (s : WordStep). (answer_in c t s ≡ answers.NotYet) ↔ ⊥) is ((λ (e : answers.Went ≡ answers.NotYet). cc), λ h. absurd h)
    by_phase (Posting v) due at task =
        let is : Post v ≡ step = cc in
        subst (λ (s : WordStep). (answer_in c t s ≡ answers.NotYet) ↔ ⊥) is ((λ e. posts (has 1 (word_in c v)) e), λ h. absurd h)
      where
        posts : (b : Bool) → (if b then answers.Inside else answers.Went) ≡ answers.NotYet → ⊥
        posts true e = cc
        posts false e = cc
    by_phase (Looking v) due at task =
        let is : Look v ≡ step = cc in
        subst (λ (s : WordStep). (answer_in c t s ≡ answers.NotYet) ↔ (has 4 (word_in c v) ≡ false)) is ((λ e. looks (has 4 (word_in c v)) e), λ h. ap (λ (b : Bool). if b then answers.Went else answers.NotYet) h)
      where
        looks : (b : Bool) → (if b then answers.Went else answers.NotYet) ≡ answers.NotYet → b ≡ false
        looks true e = cc
        looks false e = refl
    by_phase Collecting due at task = cc
    by_phase (Releasing v) due at task =
        let is : Release v ≡ step = cc in
        subst (λ (s : WordStep). (answer_in c t s ≡ answers.NotYet) ↔ ⊥) is ((λ (e : answers.Went ≡ answers.NotYet). cc), λ h. absurd h)
    by_phase Returning due at task =
        let is : Return ≡ step = cc in
        subst (λ (s : WordStep). (answer_in c t s ≡ answers.NotYet) ↔ ⊥) is ((λ (e : answers.Went ≡ answers.NotYet). cc), λ h. absurd h)
    by_phase Ended due at task = cc

-- a thread that walks is not at its end
pub walks_on : (m : MachineView) (t : ℕ) (step : WordStep) → task_at (phase_of (configuration_of m) t) (is_due (program_of m) m.world.history t) ≡ Walk step → phase_of (configuration_of m) t ≢ Ended
walks_on m t step task ended = (let never : Rest ≡ Walk step = ap (λ (x : Phase). task_at x (is_due (program_of m) m.world.history t)) (sym ended) ∙ task in cc)

-- a collection, from its parts
pub collection_done : (old new : View) (turn : ℕ) (words : List ℕ) (phases phases' : List Phase) (t : ℕ) → Happens t old new →
    phase_of (configuration_of (seen old turn words phases)) t ≡ Collecting → phases' ≡ set phases t (releasing_from (length old.program.threads) t 0) →
    EventDone t (seen old turn words phases) (seen new turn words phases')
collection_done old new turn words phases phases' t h at phases_are =
    let n = length old.program.threads in
    record {
      program = h.program;
      event = record {
        event = h.event;
        thread = h.thread;
        lawful = h.lawful;
        history = h.history;
        turn = refl;
        words = refl;
        phases = phases_are
            ∙ ap (λ (x : Phase). set phases t (happened n t x (stays_inside (replay old.program new.history) h.event))) (sym at);
        shown = refl;
      };
    }
