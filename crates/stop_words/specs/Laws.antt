-- A step of a seat is a step of the word machine. Each law is of any parcels and any number of threads. This project's
-- own.
use Rattle.std.specs.Prelude.{◌≡◌, ◌≢◌, ◌<◌, ℕ, Option, true, false, List, ◌∷◌, slice_index, slice_set}
use mathlib.Core.Option.{some}
use lib.ListN.{get_elem?}
use Rattle.atomic_table.specs.Table.{State}
use Rattle.heap_terms.specs.declared.steps.WordStep.{WordStep}
use Rattle.heap_terms.specs.declared.steps.WordStep.TheVariants.{Resume, Enter, Leave, Park, Claim, Post, Look, Release, Return}
use Rattle.heap_terms.specs.WordMachine.{MayStep, place_of, words_after}
use Rattle.stop_words.specs.declared.view.Place.TheVariants.{Parked, Outside, Inside, Holding}
use Rattle.stop_words.specs.declared.view.View.{View}
use Rattle.stop_words.specs.Places.{is_in}
use Rattle.stop_words.specs.Views.{view_after}
use Rattle.stop_words.specs.Rule.{StopRule}

-- what a seat knows where it does the step, among n threads: the conditions of the calls
abbrev pub MayDo : ℕ → WordStep → View → Type 0
MayDo n Resume v = v.place ≡ Parked
MayDo n Enter v = v.place ≡ Outside
MayDo n Leave v = v.place ≡ Inside
MayDo n Park v = v.place ≡ Outside
MayDo n Claim v = v.place ≡ Outside
MayDo n (Post u) v = (v.place ≡ Holding) × (u < n) × (u ≢ v.thread)
MayDo n (Look u) v = (v.place ≡ Holding) × (is_in u v.posted ≡ true)
MayDo n (Release u) v = (v.place ≡ Holding) × (is_in u v.seen ≡ true)
MayDo n Return v = (v.place ≡ Holding) × ((u : ℕ) → u < n → u ≢ v.thread → is_in u v.posted ≡ false)

module _ {P : Type 0} (owner : P → ℕ) where
  -- in whatever state the rule allows, the word machine has the step too
  abbrev pub StepsMayBeDone : Type 0
  StepsMayBeDone = (n t turn : ℕ) (words : List ℕ) (s : State (Option P) View) (v : View) (step : WordStep)
      → StopRule owner n s → s.words ≡ turn ∷ words → get_elem? s.views t ≡ some v → MayDo n step v → MayStep t step turn words

  -- and where the rule holds before and after, and of the views this one alone has changed, as the step says of what it
  -- found, the one word has become what the word machine makes of it, and all other words are as before
  abbrev pub StepsChangeOneWord : Type 0
  StepsChangeOneWord = (n t : ℕ) (old new : State (Option P) View) (v : View) (step : WordStep)
      → StopRule owner n old → StopRule owner n new → get_elem? old.views t ≡ some v → MayDo n step v
      → new.views ≡ slice_set old.views t (view_after step (slice_index old.words (place_of t step)) v)
      → new.words ≡ words_after t step old.words
