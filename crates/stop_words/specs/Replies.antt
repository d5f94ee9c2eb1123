-- The answers of the calls, by the answer of the step. This project's own.
use Rattle.std.specs.Prelude.{◌≡◌, ℕ, Bool, true, false}
use Rattle.heap_terms.specs.declared.steps.StepAnswer.{StepAnswer}
use Rattle.heap_terms.specs.declared.steps.StepAnswer.TheVariants.{Went, Inside, StopFound, Taken, NotYet}
use Rattle.heap_terms.specs.declared.steps.WordStep.TheVariants.{Resume}
use Rattle.heap_terms.specs.WordMachine.{answer}
use Rattle.stop_words.specs.declared.view.Place.{Place}
use Rattle.stop_words.specs.declared.view.Place.TheVariants as at
use Rattle.stop_words.specs.declared.view.View.{View}
use Rattle.stop_words.specs.declared.replies.Resumed.{Resumed}
use Rattle.stop_words.specs.declared.replies.Resumed.TheVariants.{Back, StillStopped}
use Rattle.stop_words.specs.declared.replies.Entry.{Entry}
use Rattle.stop_words.specs.declared.replies.Entry.TheVariants.{Entered, StopSeen}
use Rattle.stop_words.specs.declared.replies.Claim.{Claim}
use Rattle.stop_words.specs.declared.replies.Claim.TheVariants as claim

-- a stop was found
abbrev pub is_stop : StepAnswer → Bool
is_stop StopFound = true
is_stop Went = false
is_stop Inside = false
is_stop NotYet = false
is_stop (Taken h) = false

-- the other thread is inside a section
abbrev pub is_inside : StepAnswer → Bool
is_inside Inside = true
is_inside Went = false
is_inside StopFound = false
is_inside NotYet = false
is_inside (Taken h) = false

-- the step was done
abbrev pub is_done : StepAnswer → Bool
is_done Went = true
is_done Inside = false
is_done StopFound = false
is_done NotYet = false
is_done (Taken h) = false

abbrev pub entry_of : StepAnswer → Entry
entry_of StopFound = StopSeen
entry_of Went = Entered
entry_of Inside = Entered
entry_of NotYet = Entered
entry_of (Taken h) = Entered

abbrev pub claim_of : StepAnswer → Claim
claim_of (Taken h) = claim.Taken h
claim_of Went = claim.Claimed
claim_of Inside = claim.Claimed
claim_of StopFound = claim.Claimed
claim_of NotYet = claim.Claimed

-- the parcel is back where the step was done, and belongs to the seat's thread
abbrev pub Answers : {P : Type 0} → (P → ℕ) → View → Resumed P → Type 0
Answers owner v (Back parcel) = (answer Resume v.found ≡ Went) × (owner parcel ≡ v.thread)
Answers owner v StillStopped = answer Resume v.found ≡ NotYet

-- where the thread is after each answer
abbrev pub after_resume : {P : Type 0} → Resumed P → Place
after_resume (Back parcel) = at.Outside
after_resume StillStopped = at.Parked

abbrev pub after_enter : Entry → Place
after_enter Entered = at.Inside
after_enter StopSeen = at.Outside

abbrev pub after_claim : Claim → Place
after_claim claim.Claimed = at.Holding
after_claim (claim.Taken h) = at.Outside
