-- The table of phases, row by row, for thread 1 of three. Each row is an equation of the tables, which computes.
use Rattle.std.specs.Prelude.{◌≡◌, true, false, []}
use Rattle.heap_terms.specs.declared.phases.Phase.TheVariants.{Parked, Outside, Inside, Leaving, Parking, Posting, Looking, Collecting, Releasing, Returning, Ended}
use Rattle.heap_terms.specs.declared.steps.StepAnswer.TheVariants as answers
use Rattle.heap_terms.specs.declared.steps.WordStep.TheVariants as steps
use Rattle.heap_terms.specs.declared.phases.Task.TheVariants.{Walk, Happen, Rest}
use Rattle.heap_terms.specs.Phases.{task_at, went, walked, happened}
use Rattle.heap_terms.specs.MachineTurns.{step_lines}

-- what is done at each phase; outside that goes by whether a collection is due
pub record TasksOfPhases : Type 0 where
  pub parked : task_at Parked false ≡ Walk steps.Resume
  pub outside_due : task_at Outside true ≡ Walk steps.Claim
  pub outside : task_at Outside false ≡ Walk steps.Enter
  pub inside : task_at Inside false ≡ Happen
  pub leaving : task_at Leaving true ≡ Walk steps.Leave
  pub parking : task_at Parking true ≡ Walk steps.Park
  pub posting : task_at (Posting 2) true ≡ Walk (steps.Post 2)
  pub looking : task_at (Looking 0) true ≡ Walk (steps.Look 0)
  pub collecting : task_at Collecting true ≡ Happen
  pub releasing : task_at (Releasing 2) false ≡ Walk (steps.Release 2)
  pub returning : task_at Returning false ≡ Walk steps.Return
  pub ended : task_at Ended false ≡ Rest

-- where a word step leads: by what is due, whether the thread has ended, and what the step found
pub record StepsOfPhases : Type 0 where
  pub resumes : walked 3 1 Parked false false (went answers.Went) ≡ Outside
  pub waits : walked 3 1 Parked false false (went answers.NotYet) ≡ Parked
  pub claims : walked 3 1 Outside true false (went answers.Went) ≡ Posting 0
  pub is_taken : walked 3 1 Outside true false (went (answers.Taken 2)) ≡ Parking
  pub enters : walked 3 1 Outside false false (went answers.Went) ≡ Inside
  pub finds_stop : walked 3 1 Outside false false (went answers.StopFound) ≡ Parking
  pub leaves : walked 3 1 Leaving true false (went answers.Went) ≡ Outside
  pub leaves_stopped : walked 3 1 Leaving true false (went answers.StopFound) ≡ Parking
  pub leaves_ended : walked 3 1 Leaving false true (went answers.Went) ≡ Parking
  pub parks : walked 3 1 Parking true false (went answers.Went) ≡ Parked
  pub parks_last : walked 3 1 Parking false true (went answers.Went) ≡ Ended
  pub posts : walked 3 1 (Posting 0) true false (went answers.Inside) ≡ Posting 2
  pub posts_last : walked 3 1 (Posting 2) true false (went answers.Went) ≡ Looking 0
  pub looks : walked 3 1 (Looking 0) true false (went answers.Went) ≡ Looking 2
  pub looks_in_vain : walked 3 1 (Looking 0) true false (went answers.NotYet) ≡ Looking 0
  pub looks_last : walked 3 1 (Looking 2) true false (went answers.Went) ≡ Collecting
  pub releases : walked 3 1 (Releasing 0) false false (went answers.Went) ≡ Releasing 2
  pub releases_last : walked 3 1 (Releasing 2) false false (went answers.Went) ≡ Returning
  pub gives_back : walked 3 1 Returning false false (went answers.Went) ≡ Outside
  pub claims_alone : walked 1 0 Outside true false (went answers.Went) ≡ Collecting

-- where an event leads, by whether the section goes on
pub record EventsOfPhases : Type 0 where
  pub done : happened 3 1 Inside false ≡ Leaving
  pub goes_on : happened 3 1 Inside true ≡ Inside
  pub collected : happened 3 1 Collecting false ≡ Releasing 0
  pub collected_alone : happened 1 0 Collecting false ≡ Returning

-- a step that waits has no line
pub record LinesOfSteps : Type 0 where
  pub waits : step_lines 1 steps.Resume answers.NotYet ≡ []
  pub looks_in_vain : step_lines 1 (steps.Look 0) answers.NotYet ≡ []

-- the whole table
pub record PhaseTable : Type 0 where
  pub tasks : TasksOfPhases
  pub steps : StepsOfPhases
  pub events : EventsOfPhases
  pub lines : LinesOfSteps
