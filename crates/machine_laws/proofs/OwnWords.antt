-- The steps of a thread on its own word, phase by phase.
use Rattle.std.proofs.Common.{◌≡◌, ℕ, ◌+◌, refl, arith, Bool, true, false}
use Rattle.std.proofs.lemmas.Bool.{false≢true}
use Rattle.heap_terms.specs.declared.phases.Phase.TheVariants.{Parked, Outside, Inside, Leaving, Parking}
use Rattle.heap_terms.specs.declared.steps.WordStep.TheVariants.{Resume, Enter, Leave, Park}
use Rattle.heap_terms.specs.Phases.{walked, happened, went}
use Rattle.heap_terms.specs.WordMachine.{answer, becomes}
use Rattle.machine_laws.specs.Order.{own_bits, holds, stop_bit}
use Rattle.machine_laws.proofs.OwnSteps.{IsOwnStep}

pub resumed : (n t w : ℕ) (due over stands : Bool) → w ≡ own_bits Parked + stop_bit stands →
    IsOwnStep Parked (walked n t Parked due over (went (answer Resume w))) (becomes t Resume w) stands
resumed n t w due over true e = rw e (record { word_is = refl; found = λ _ parked. parked })
resumed n t w due over false e = rw e (record { word_is = refl; found = λ stands parked. absurd (false≢true stands) })

pub resumed_calm : (n t : ℕ) (due over gone : Bool) → holds (walked n t Parked due over gone) ≡ false
resumed_calm n t due over true = refl
resumed_calm n t due over false = refl

pub entered : (n t w : ℕ) (over stands : Bool) → w ≡ own_bits Outside + stop_bit stands →
    IsOwnStep Outside (walked n t Outside false over (went (answer Enter w))) (becomes t Enter w) stands
entered n t w over true e = rw e (record { word_is = refl; found = λ _ parked. absurd (omega arith) })
entered n t w over false e = rw e (record { word_is = refl; found = λ _ parked. absurd (omega arith) })

pub entered_calm : (n t : ℕ) (over gone : Bool) → holds (walked n t Outside false over gone) ≡ false
entered_calm n t over true = refl
entered_calm n t over false = refl

pub left_section : (n t w : ℕ) (due over stands : Bool) → w ≡ own_bits Leaving + stop_bit stands →
    IsOwnStep Leaving (walked n t Leaving due over (went (answer Leave w))) (becomes t Leave w) stands
left_section n t w due over true e = rw e (record { word_is = refl; found = λ _ parked. absurd (omega arith) })
left_section n t w due true false e = rw e (record { word_is = refl; found = λ _ parked. absurd (omega arith) })
left_section n t w due false false e = rw e (record { word_is = refl; found = λ _ parked. absurd (omega arith) })

pub left_calm : (n t : ℕ) (due over gone : Bool) → holds (walked n t Leaving due over gone) ≡ false
left_calm n t due true true = refl
left_calm n t due false true = refl
left_calm n t due over false = refl

pub parked : (n t w : ℕ) (due over gone stands : Bool) → w ≡ own_bits Parking + stop_bit stands →
    IsOwnStep Parking (walked n t Parking due over gone) (becomes t Park w) stands
parked n t w due true gone true e = rw e (record { word_is = refl; found = λ _ known. refl })
parked n t w due true gone false e = rw e (record { word_is = refl; found = λ _ known. refl })
parked n t w due false gone true e = rw e (record { word_is = refl; found = λ _ known. refl })
parked n t w due false gone false e = rw e (record { word_is = refl; found = λ _ known. refl })

pub parked_calm : (n t : ℕ) (due over gone : Bool) → holds (walked n t Parking due over gone) ≡ false
parked_calm n t due true gone = refl
parked_calm n t due false gone = refl

-- an event inside a section leaves the word
pub inside_event : (n t w : ℕ) (stays stands : Bool) → w ≡ own_bits Inside + stop_bit stands → IsOwnStep Inside (happened n t Inside stays) w stands
inside_event n t w true stands e = record { word_is = e; found = λ _ known. known }
inside_event n t w false stands e = record { word_is = e; found = λ _ known. absurd (omega arith) }

pub inside_calm : (n t : ℕ) (stays : Bool) → holds (happened n t Inside stays) ≡ false
inside_calm n t true = refl
inside_calm n t false = refl
