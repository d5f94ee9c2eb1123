-- From what a step tells to what a call says.
use Rattle.std.proofs.Common.{◌≡◌, ℕ, suc, Bool, true, false, not, eqb, [], ◌∷◌, Option, Some, refl, sym, ap, ◌∙◌, subst, bit_and, bit_or}
use Rattle.std.specs.Prelude.{if◌then◌else◌}
use mathlib.Core.Option.{none}
use Rattle.atomic_table.specs.Table.{Me, step, rest, Allows}
use Rattle.heap_terms.specs.declared.steps.WordStep.{WordStep}
use Rattle.heap_terms.specs.declared.steps.WordStep.TheVariants.{Post, Look}
use Rattle.heap_terms.specs.declared.steps.StepAnswer.TheVariants as answered
use Rattle.heap_terms.specs.WordMachine.{answer}
use Rattle.stop_words.specs.declared.view.Place.TheVariants.{Outside}
use Rattle.stop_words.specs.declared.view.View.{View}
use Rattle.stop_words.specs.Views.{view_after}
use Rattle.stop_words.specs.Hands.{labels}
use Rattle.stop_words.specs.Rule.{StopRule}
use Rattle.stop_words.specs.Plays.{IsWord, ParkedIn}
use Rattle.stop_words.specs.Replies.{is_inside, is_done}
use Rattle.stop_words.proofs.Moves.{parks}
use Rattle.stop_words.proofs.SeatFacts.{head_of, no_hand}

-- the view has what the step found
pub found_is : (s : WordStep) (r : ℕ) (v w : View) → w ≡ view_after s r v → w.found ≡ r
found_is s r v w e = ap (λ (u : View). u.found) e

pub did : (s : WordStep) (r : ℕ) (v w : View) → w ≡ view_after s r v → w ≡ view_after s w.found v
did s r v w e = e ∙ ap (λ k. view_after s k v) (sym (found_is s r v w e))

pub found_word : (s : WordStep) (r : ℕ) (v w : View) → w ≡ view_after s r v → IsWord r → IsWord w.found
found_word s r v w e is = subst IsWord (sym (found_is s r v w e)) is

inside_if : (b : Bool) → b ≡ is_inside (if b then answered.Inside else answered.Went)
inside_if true = refl
inside_if false = refl

done_if : (b : Bool) → b ≡ is_done (if b then answered.Went else answered.NotYet)
done_if true = refl
done_if false = refl

pub inside_test : (u r : ℕ) (v w : View) → w ≡ view_after (Post u) r v → not (eqb (bit_and r 1) 0) ≡ is_inside (answer (Post u) w.found)
inside_test u r v w e = inside_if (not (eqb (bit_and r 1) 0)) ∙ ap (λ k. is_inside (answer (Post u) k)) (sym (found_is (Post u) r v w e))

pub done_test : (u r : ℕ) (v w : View) → w ≡ view_after (Look u) r v → not (eqb (bit_and r 4) 0) ≡ is_done (answer (Look u) w.found)
done_test u r v w e = done_if (not (eqb (bit_and r 4) 0)) ∙ ap (λ k. is_done (answer (Look u) k)) (sym (found_is (Look u) r v w e))

module _ {P : Type 0} (owner : P → ℕ) where
  -- the step of `park`, with the parcel in the slot
  pub parks_after : (n slots id i : ℕ) (old m : Me (Option P) View) (q : P) (thread : ℕ) → m ≡ (old.0, (thread, Some q) ∷ rest old.1) → old.0.thread ≡ thread → old.0.place ≡ Outside → owner q ≡ thread → i ≡ suc thread
      → Allows (StopRule owner n) slots id m i (λ x. bit_or x 4) (ParkedIn owner (step slots i 4 0 none) m)
  parks_after n slots id i old m q thread e number placed owned at_i =
      let num : m.0.thread ≡ thread = ap (λ (k : Me (Option P) View). k.0.thread) e ∙ number in
      parks owner n slots id i m q (rest old.1) (ap (λ (k : Me (Option P) View). k.1) e ∙ ap (λ k. (k, Some q) ∷ rest old.1) (sym num)) (at_i ∙ ap suc (sym num)) (ap (λ (k : Me (Option P) View). k.0.place) e ∙ placed) (owned ∙ sym num)

  -- the hand is empty once its one slot went home
  pub gone_home : (thread : ℕ) (o : Option ℕ) (old m new : Me (Option P) View) (x : Option P) → labels owner old.1 ≡ (thread, o) ∷ [] → m ≡ (old.0, (thread, x) ∷ rest old.1) → new.1 ≡ rest m.1 → new.1 ≡ []
  gone_home thread o old m new x shows e gave =
      let h = head_of owner thread o [] old.1 shows in gave ∙ ap (λ (k : Me (Option P) View). rest k.1) e ∙ no_hand owner (rest old.1) h.3
