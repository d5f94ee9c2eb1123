-- How much is left of a run: a number that falls until all threads have ended.
use Rattle.std.specs.Prelude.{◌≡◌, ◌≢◌, ℕ, zero, suc, ◌+◌, ◌-◌, ◌*◌, ◌==◌, length, if◌then◌else◌}
use Rattle.std.specs.List.{range_with_len, sum_by}
use Rattle.heap_terms.specs.declared.phases.Phase.{Phase}
use Rattle.heap_terms.specs.declared.phases.Phase.TheVariants.{Parked, Outside, Inside, Leaving, Parking, Posting, Looking, Collecting, Releasing, Returning, Ended}
use Rattle.heap_terms.specs.declared.programs.Program.{Program}
use Rattle.heap_terms.specs.Histories.{replay}
use Rattle.heap_terms.specs.MachineTurns.{Configuration, phase_of}
use Rattle.heap_laws.specs.Remaining.{all_left}
use Rattle.machine_laws.specs.Order.{own_bits}

-- while the turn is free: how far a thread is from its next event, claim or end
abbrev pub steps_left : Phase → ℕ
steps_left Parked = 3
steps_left Outside = 2
steps_left Inside = 1
steps_left Leaving = 5
steps_left Parking = 4
steps_left (Posting u) = 0
steps_left (Looking u) = 0
steps_left Collecting = 0
steps_left (Releasing u) = 0
steps_left Returning = 0
steps_left Ended = 0

-- while the holder looks at a thread: how far that thread is from being parked
abbrev pub steps_to_park : Phase → ℕ
steps_to_park Parked = 0
steps_to_park Outside = 2
steps_to_park Inside = 3
steps_to_park Leaving = 2
steps_to_park Parking = 1
steps_to_park (Posting u) = 0
steps_to_park (Looking u) = 0
steps_to_park Collecting = 0
steps_to_park (Releasing u) = 0
steps_to_park Returning = 0
steps_to_park Ended = 0

-- how far the holder of the turn is from its collection, by its phase; one that has collected has the turn of others before it
abbrev pub stage : ℕ → Phase → ℕ
stage n Parked = 0
stage n Outside = 0
stage n Inside = 0
stage n Leaving = 0
stage n Parking = 0
stage n (Posting u) = n + (n - u)
stage n (Looking u) = n - u
stage n Collecting = 0
stage n (Releasing u) = 2 * n + 2 + (n - u)
stage n Returning = 2 * n + 2
stage n Ended = 0

-- and how far the thread is that it waits for
abbrev pub steps_awaited : Phase → (ℕ → Phase) → ℕ
steps_awaited Parked phases = 0
steps_awaited Outside phases = 0
steps_awaited Inside phases = 0
steps_awaited Leaving phases = 0
steps_awaited Parking phases = 0
steps_awaited (Posting u) phases = 0
steps_awaited (Looking u) phases = steps_to_park (phases u)
steps_awaited Collecting phases = 0
steps_awaited (Releasing u) phases = 0
steps_awaited Returning phases = 0
steps_awaited Ended phases = 0

-- a stage counts for more than all the steps of n threads within it
abbrev pub stage_weight : ℕ → ℕ
stage_weight n = 5 * n + 4

-- what is left until the next event, by who holds the turn
abbrev pub until_event : ℕ → ℕ → (ℕ → Phase) → ℕ
until_event n zero phases = (2 * n + 1) * stage_weight n + sum_by (λ t. steps_left (phases t)) (range_with_len 0 n)
until_event n (suc h) phases = stage n (phases h) * stage_weight n + steps_awaited (phases h) phases

-- an event counts for more than all that may be left until the next one
abbrev pub event_weight : ℕ → ℕ
event_weight n = (3 * n + 4) * stage_weight n

-- what is left of a run
abbrev pub measure : Program → Configuration → ℕ
measure p c =
    all_left p (replay p c.history) * event_weight (length p.threads) + until_event (length p.threads) c.turn (phase_of c)

-- A mover is a thread whose turn makes less of what is left: while the turn is free each that has not ended, and else the
-- holder, but the thread at which it looks while that one is not parked.
abbrev pub IsMoverFor : Phase → ℕ → (ℕ → Phase) → ℕ → Type 0
IsMoverFor Parked h phases m = m ≡ h
IsMoverFor Outside h phases m = m ≡ h
IsMoverFor Inside h phases m = m ≡ h
IsMoverFor Leaving h phases m = m ≡ h
IsMoverFor Parking h phases m = m ≡ h
IsMoverFor (Posting u) h phases m = m ≡ h
IsMoverFor (Looking u) h phases m = m ≡ (if own_bits (phases u) == 4 then h else u)
IsMoverFor Collecting h phases m = m ≡ h
IsMoverFor (Releasing u) h phases m = m ≡ h
IsMoverFor Returning h phases m = m ≡ h
IsMoverFor Ended h phases m = m ≡ h

abbrev pub IsMover : ℕ → (ℕ → Phase) → ℕ → Type 0
IsMover zero phases m = phases m ≢ Ended
IsMover (suc h) phases m = IsMoverFor (phases h) h phases m
