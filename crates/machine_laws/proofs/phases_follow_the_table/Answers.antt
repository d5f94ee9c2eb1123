-- Every row of the table computes.
use Rattle.std.proofs.Common.{refl}
use Rattle.machine_laws.specs.Examples.{TasksOfPhases, StepsOfPhases, EventsOfPhases, LinesOfSteps}
use Rattle.machine_laws.proofs.phases_follow_the_table.Goals as goal

tasks_hold : TasksOfPhases
tasks_hold = record { parked = refl; outside_due = refl; outside = refl; inside = refl; leaving = refl; parking = refl; posting = refl; looking = refl; collecting = refl; releasing = refl; returning = refl; ended = refl }

steps_hold : StepsOfPhases
steps_hold = record { resumes = refl; waits = refl; claims = refl; is_taken = refl; enters = refl; finds_stop = refl; leaves = refl; leaves_stopped = refl; leaves_ended = refl; parks = refl; parks_last = refl; posts = refl; posts_last = refl; looks = refl; looks_in_vain = refl; looks_last = refl; releases = refl; releases_last = refl; gives_back = refl; claims_alone = refl }

events_hold : EventsOfPhases
events_hold = record { done = refl; goes_on = refl; collected = refl; collected_alone = refl }

lines_hold : LinesOfSteps
lines_hold = record { waits = refl; looks_in_vain = refl }

pub returns : goal.returns
returns c = record { tasks = tasks_hold; steps = steps_hold; events = events_hold; lines = lines_hold }
