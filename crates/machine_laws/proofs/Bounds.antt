-- How much may be left until the next event, and that an event counts for more.
use Rattle.std.proofs.Common.{◌≡◌, ℕ, zero, suc, ◌+◌, ◌-◌, ◌*◌, ◌<◌, ◌≤◌, arith}
use Rattle.std.proofs.lemmas.List.Sums.{sum_by-cons}
use Rattle.std.specs.List.{range_with_len, sum_by}
use Rattle.heap_terms.specs.declared.phases.Phase.{Phase}
use Rattle.heap_terms.specs.declared.phases.Phase.TheVariants.{Parked, Outside, Inside, Leaving, Parking, Posting, Looking, Collecting, Releasing, Returning, Ended}
use Rattle.heap_terms.specs.Phases.{looking_from, posting_from, releasing_from}
use Rattle.machine_laws.specs.Measure.{steps_left, steps_to_park, stage, steps_awaited, stage_weight, until_event, event_weight}
use Rattle.machine_laws.proofs.Others.{other_is, There, Last, other_case}

steps_left_most : (ph : Phase) → steps_left ph ≤ 5
steps_left_most Parked = omega arith
steps_left_most Outside = omega arith
steps_left_most Inside = omega arith
steps_left_most Leaving = omega arith
steps_left_most Parking = omega arith
steps_left_most (Posting u) = omega arith
steps_left_most (Looking u) = omega arith
steps_left_most Collecting = omega arith
steps_left_most (Releasing u) = omega arith
steps_left_most Returning = omega arith
steps_left_most Ended = omega arith

steps_to_park_most : (ph : Phase) → steps_to_park ph ≤ 3
steps_to_park_most Parked = omega arith
steps_to_park_most Outside = omega arith
steps_to_park_most Inside = omega arith
steps_to_park_most Leaving = omega arith
steps_to_park_most Parking = omega arith
steps_to_park_most (Posting u) = omega arith
steps_to_park_most (Looking u) = omega arith
steps_to_park_most Collecting = omega arith
steps_to_park_most (Releasing u) = omega arith
steps_to_park_most Returning = omega arith
steps_to_park_most Ended = omega arith

pub steps_awaited_most : (ph : Phase) (phases : ℕ → Phase) → steps_awaited ph phases ≤ 3
steps_awaited_most Parked phases = omega arith
steps_awaited_most Outside phases = omega arith
steps_awaited_most Inside phases = omega arith
steps_awaited_most Leaving phases = omega arith
steps_awaited_most Parking phases = omega arith
steps_awaited_most (Posting u) phases = omega arith
steps_awaited_most (Looking u) phases = steps_to_park_most (phases u)
steps_awaited_most Collecting phases = omega arith
steps_awaited_most (Releasing u) phases = omega arith
steps_awaited_most Returning phases = omega arith
steps_awaited_most Ended phases = omega arith

stage_most : (n : ℕ) (ph : Phase) → stage n ph ≤ 3 * n + 2
stage_most n Parked = omega arith
stage_most n Outside = omega arith
stage_most n Inside = omega arith
stage_most n Leaving = omega arith
stage_most n Parking = omega arith
stage_most n (Posting u) = omega arith
stage_most n (Looking u) = omega arith
stage_most n Collecting = omega arith
stage_most n (Releasing u) = omega arith
stage_most n Returning = omega arith
stage_most n Ended = omega arith

pub sum_most : (phases : ℕ → Phase) (a n : ℕ) → sum_by (λ t. steps_left (phases t)) (range_with_len a n) ≤ 5 * n
sum_most phases a zero = omega arith
sum_most phases a (suc n) =
    let here = steps_left_most (phases a) in
    let rest = sum_most phases (a + 1) n in
    omega (arith, sum_by-cons (λ t. steps_left (phases t)) a (range_with_len (a + 1) n))

-- fewer stages count for less, whatever steps are left
pub fewer_stages : (a b x w : ℕ) → a < b → x < w → a * w + x < b * w
fewer_stages a b x w less small =
    let e : b ≡ a + (1 + (b - a - 1)) = omega arith in
    rw e (let all : (a + (1 + (b - a - 1))) * w ≡ a * w + (w + (b - a - 1) * w) = grind arith in omega arith)

pub until_event_most : (n turn : ℕ) (phases : ℕ → Phase) → until_event n turn phases < event_weight n
until_event_most n zero phases = (let few = sum_most phases 0 n in fewer_stages (2 * n + 1) (3 * n + 4) _ (stage_weight n) (omega arith) (omega arith))
until_event_most n (suc h) phases =
    let few = steps_awaited_most (phases h) phases in
    let low = stage_most n (phases h) in
    fewer_stages (stage n (phases h)) (3 * n + 4) (steps_awaited (phases h) phases) (stage_weight n) (omega arith) (omega arith)

-- the stages that follow
pub looking_stage : (n t u : ℕ) → stage n (looking_from n t u) ≤ n - u
looking_stage n t u = elim (other_case n t u) [
  | There e below ↦ rw e (let from = (other_is t u).from in omega arith)
  | Last e all ↦ rw e (omega arith)
]

pub posting_stage : (n t u : ℕ) → stage n (posting_from n t u) ≤ n + (n - u)
posting_stage n t u = elim (other_case n t u) [
  | There e below ↦ rw e (let from = (other_is t u).from in omega arith)
  | Last e all ↦ rw e (let look = looking_stage n t 0 in omega arith)
]

pub releasing_stage : (n t u : ℕ) → stage n (releasing_from n t u) ≤ 2 * n + 2 + (n - u)
releasing_stage n t u = elim (other_case n t u) [
  | There e below ↦ rw e (let from = (other_is t u).from in omega arith)
  | Last e all ↦ rw e (omega arith)
]
