-- Every turn keeps the turn, the words and the phases in order.
use Rattle.std.proofs.Common.{◌≡◌, ℕ, zero, suc, ◌+◌, ◌<◌, List, ◌∷◌, length, inl, inr, refl, sym, ◌∙◌, ap, subst, arith, get_or, set, Bool, true, false}
use Rattle.std.proofs.lemmas.Bool.{cases_Bool, cases_eq, ne_eqb}
use Rattle.std.proofs.lemmas.List.{get_or-set_same, get_or-set_other, set-get_or}
use Rattle.std.specs.Prelude.{if◌then◌else◌, ◌==◌, bit_or}
use Rattle.heap_terms.specs.declared.phases.Phase.{Phase}
use Rattle.heap_terms.specs.declared.phases.Phase.TheVariants.{Parked, Outside, Inside, Leaving, Parking, Posting, Looking, Collecting, Releasing, Returning, Ended}
use Rattle.heap_terms.specs.declared.programs.Program.{Program}
use Rattle.heap_terms.specs.declared.steps.ReplayLine.{ReplayLine}
use Rattle.heap_terms.specs.declared.steps.StepAnswer.{StepAnswer}
use Rattle.heap_terms.specs.declared.steps.StepAnswer.TheVariants as answers
use Rattle.heap_terms.specs.declared.steps.WordStep.TheVariants.{Resume, Enter, Leave, Park, Claim, Post, Look, Release, Return}
use Rattle.heap_terms.specs.MachineTurns.{Configuration, phase_of, is_due, has_ended, stays_inside, Does, IsTurn, answer_in, Walks, HasEvent}
use Rattle.heap_terms.specs.Histories.{replay}
use Rattle.heap_terms.specs.Phases.{task_at, walked, happened, went, looking_from, posting_from, releasing_from}
use Rattle.heap_terms.specs.WordMachine.{answer, becomes, has, clear}
use Rattle.machine_laws.specs.Order.{own_bits, holds, stop_bit, IsHeld, InOrder, IsPlaced}
use Rattle.machine_laws.specs.Orderly.{IsOrderly, word_in}
use Rattle.machine_laws.proofs.Others.{IsChanged}
use Rattle.machine_laws.proofs.OwnSteps.{IsOwnStep, own_step}
use Rattle.machine_laws.proofs.OwnWords.{resumed, resumed_calm, entered, entered_calm, left_section, left_calm, parked, parked_calm, inside_event, inside_calm}
use Rattle.machine_laws.proofs.HolderSteps.{holder_is, claim_step, post_step, look_step, collect_step, release_step, return_step}

-- one word has changed, or the turn has
pub list_changed : {X : Type 0} (xs ys : List X) (u : ℕ) (w d : X) → u < length xs → ys ≡ set xs u w → IsChanged u w (λ v. get_or xs v d) (λ v. get_or ys v d)
list_changed {X} xs ys u w d l e = rw e (record {
  own = get_or-set_same xs u w d l;
  others = λ v apart. get_or-set_other xs u v w d apart;
})

pub own_words : (old new : Configuration) (u w : ℕ) → (new.turn ∷ new.words) ≡ set (old.turn ∷ old.words) (suc u) w →
    (new.turn ≡ old.turn) × (new.words ≡ set old.words u w)
own_words old new u w e = (cc, cc)

pub turn_words : (old new : Configuration) (w : ℕ) → (new.turn ∷ new.words) ≡ set (old.turn ∷ old.words) 0 w → (new.turn ≡ w) × (new.words ≡ old.words)
turn_words old new w e = (cc, cc)

-- a configuration in which the turn, the words and the phases are in order
abbrev pub IsOrdered : Program → Configuration → Type 0
IsOrdered p c = InOrder (length p.threads) c.turn (word_in c) (phase_of c)

-- the phase of the thread that had the turn has changed
pub phases_changed : (p : Program) (t : ℕ) (old new : Configuration) (q : Phase) → IsOrderly p old → t < length p.threads → new.phases ≡ set old.phases t q →
    IsChanged t q (phase_of old) (phase_of new)
phases_changed p t old new q o l e = list_changed old.phases new.phases t q Ended (let same = o.phases_count in omega arith) e

pub words_changed : (p : Program) (u w : ℕ) (old new : Configuration) → IsOrderly p old → u < length p.threads → new.words ≡ set old.words u w →
    IsChanged u w (word_in old) (word_in new)
words_changed p u w old new o l e = list_changed old.words new.words u w 0 (let same = o.words_count in omega arith) e

-- a step on the own word
own_turn : (p : Program) (t w : ℕ) (ph q : Phase) (old new : Configuration) → IsOrderly p old → t < length p.threads → phase_of old t ≡ ph → holds ph ≡ false → holds q ≡ false →
    (new.turn ∷ new.words) ≡ set (old.turn ∷ old.words) (suc t) w → new.phases ≡ set old.phases t q →
    ((stands : Bool) → word_in old t ≡ own_bits ph + stop_bit stands → IsOwnStep ph q w stands) → IsOrdered p new
own_turn p t w ph q old new o l at calm calm' words phases step =
    let e = own_words old new t w words in
    subst (λ (turn : ℕ). InOrder (length p.threads) turn (word_in new) (phase_of new)) (sym e.0)
    (own_step (length p.threads) t old.turn (word_in old) (word_in new) (phase_of old) (phase_of new) w q o.order (ap holds at ∙ calm)
    (words_changed p t w old new o l e.1) (phases_changed p t old new q o l phases) calm'
    (λ stands word. subst (λ (x : Phase). IsOwnStep x q w stands) (sym at) (step stands (subst (λ (x : Phase). word_in old t ≡ own_bits x + stop_bit stands) at word))) l)

-- the words stay
same_words : (p : Program) (turn : ℕ) (old new : Configuration) → new.words ≡ old.words → InOrder (length p.threads) turn (word_in old) (phase_of new) →
    InOrder (length p.threads) turn (word_in new) (phase_of new)
same_words p turn old new e h = subst (λ (ws : List ℕ). InOrder (length p.threads) turn (λ u. get_or ws u 0) (phase_of new)) (sym e) h

-- where the phase of the thread is written again nothing changes
still_held : (n h turn : ℕ) (words : ℕ → ℕ) (phases phases' : ℕ → Phase) → IsHeld n h turn words phases → ((u : ℕ) → phases' u ≡ phases u) → InOrder n turn words phases'
still_held n h turn words phases phases' k same = inr (
  h,
  record {
    holder = k.holder;
    turn_is = k.turn_is;
    holding = ap holds (same h) ∙ k.holding;
    placed = subst (λ (x : Phase). IsPlaced n h x) (sym (same h)) k.placed;
    own = k.own;
    nobody = λ u below apart. ap holds (same u) ∙ k.nobody u below apart;
    words_are = λ u below apart. rw (same u, same h) (k.words_are u below apart);
    found = λ u below apart. rw (same u, same h) (k.found u below apart);
  },
)

pub unchanged : {X : Type 0} (t : ℕ) (y : X) (f g : ℕ → X) → IsChanged t y f g → f t ≡ y → (u : ℕ) → g u ≡ f u
unchanged {X} t y f g c same u = elim (cases_eq u t) [
  | inl e ↦ subst (λ (v : ℕ). g v ≡ f v) (sym e) (c.own ∙ sym same)
  | inr other ↦ c.others u other
]

claim_turn : (p : Program) (t : ℕ) (old new : Configuration) (lines : List ReplayLine) → IsOrderly p old → t < length p.threads → phase_of old t ≡ Outside →
    is_due p old.history t ≡ true → Walks p t Claim old lines new → IsOrdered p new
claim_turn p t old new lines o l at due w =
    let e = turn_words old new (becomes t Claim old.turn) w.words in
    let n = length p.threads in
    let over = has_ended p old.history t in
    let phases : new.phases ≡ set old.phases t (walked n t Outside true over (went (answer Claim old.turn))) = subst (λ (b : Bool). new.phases ≡ set old.phases t (walked n t Outside b over (went (answer Claim old.turn)))) due
    (subst (λ (x : Phase). new.phases ≡ set old.phases t (walked n t x (is_due p old.history t) over (went (answer Claim old.turn)))) at w.phases) in
    same_words p new.turn old new e.1 (by_turn old.turn refl e.0 phases)
  where
    by_turn : (turn : ℕ) → old.turn ≡ turn → new.turn ≡ becomes t Claim old.turn →
        new.phases ≡ set old.phases t (walked (length p.threads) t Outside true (has_ended p old.history t) (went (answer Claim old.turn))) →
        InOrder (length p.threads) new.turn (word_in old) (phase_of new)
    by_turn zero e turn phases =
        let phases' = rw e at phases in
        let turn' = rw e at turn in
        let free : InOrder (length p.threads) 0 (word_in old) (phase_of old) = subst (λ (x : ℕ). InOrder (length p.threads) x (word_in old) (phase_of old)) e o.order in
        subst (λ (x : ℕ). InOrder (length p.threads) x (word_in old) (phase_of new)) (sym turn')
        (claim_step (length p.threads) t (word_in old) (phase_of old) (phase_of new) free l at (phases_changed p t old new _ o l phases'))
    by_turn (suc h) e turn phases =
        let held : (suc h == 0) ≡ false = ne_eqb (suc h) 0 (λ none. omega arith) in
        let phases' : new.phases ≡ set old.phases t Parking = rw (e, held) at phases in
        let turn' : new.turn ≡ suc h = rw (e, held) at turn in
        subst (λ (x : ℕ). InOrder (length p.threads) x (word_in old) (phase_of new)) (sym (turn' ∙ sym e))
        (own_step (length p.threads) t old.turn (word_in old) (word_in old) (phase_of old) (phase_of new) (word_in old t) Parking o.order (ap holds at)
        (record { own = refl; others = λ u apart. refl }) (phases_changed p t old new _ o l phases') refl
        (λ stands word. record {
          word_is = word ∙ ap (λ (x : Phase). own_bits x + stop_bit stands) at;
          found = λ stand parked. absurd (let e : own_bits Outside ≡ 4 = ap own_bits (sym at) ∙ parked in omega arith);
        }) l)

-- the holder's turns
held_by : (p : Program) (t : ℕ) (ph : Phase) (old : Configuration) → IsOrderly p old → t < length p.threads → phase_of old t ≡ ph → holds ph ≡ true →
    IsHeld (length p.threads) t old.turn (word_in old) (phase_of old)
held_by p t ph old o l at holding = holder_is (length p.threads) t old.turn (word_in old) (phase_of old) o.order l (ap holds at ∙ holding)

look_turn : (p : Program) (t v : ℕ) (old new : Configuration) (lines : List ReplayLine) → IsOrderly p old → t < length p.threads → phase_of old t ≡ Looking v →
    Walks p t (Look v) old lines new → IsOrdered p new
look_turn p t v old new lines o l at w =
    let n = length p.threads in
    let k = held_by p t (Looking v) old o l at refl in
    let e = own_words old new v (word_in old v) w.words in
    let same : new.words ≡ old.words = e.1 ∙ set-get_or old.words v 0 in
    let due = is_due p old.history t in
    let over = has_ended p old.history t in
    let found = word_in old v in
    let phases : new.phases ≡ set old.phases t (walked n t (Looking v) due over (went (answer (Look v) found))) =
    subst (λ (x : Phase). new.phases ≡ set old.phases t (walked n t x due over (went (answer (Look v) found)))) at w.phases in
    subst (λ (x : ℕ). InOrder n x (word_in new) (phase_of new)) (sym e.0)
    (same_words p old.turn old new same (elim (cases_Bool (has 4 found)) [
      | inl parked ↦ (
          let phases' : new.phases ≡ set old.phases t (looking_from n t (v + 1)) =
          subst (λ (b : Bool). new.phases ≡ set old.phases t (walked n t (Looking v) due over (went (if b then answers.Went else answers.NotYet)))) parked phases in
          look_step n t v old.turn (word_in old) (phase_of old) (phase_of new) k at parked (phases_changed p t old new _ o l phases'))
      | inr waits ↦ (
          let phases' : new.phases ≡ set old.phases t (Looking v) =
          subst (λ (b : Bool). new.phases ≡ set old.phases t (walked n t (Looking v) due over (went (if b then answers.Went else answers.NotYet)))) waits phases in
          still_held n t old.turn (word_in old) (phase_of old) (phase_of new) k (unchanged t (Looking v) (phase_of old) (phase_of new) (phases_changed p t old new _ o l phases') at))
    ]))

post_turn : (p : Program) (t v : ℕ) (old new : Configuration) (lines : List ReplayLine) → IsOrderly p old → t < length p.threads → phase_of old t ≡ Posting v →
    Walks p t (Post v) old lines new → IsOrdered p new
post_turn p t v old new lines o l at w =
    let n = length p.threads in
    let k = held_by p t (Posting v) old o l at refl in
    let placed : IsPlaced n t (Posting v) = subst (λ (x : Phase). IsPlaced n t x) at k.placed in
    let e = own_words old new v (bit_or (word_in old v) 2) w.words in
    let phases : new.phases ≡ set old.phases t (posting_from n t (v + 1)) =
    subst (λ (x : Phase). new.phases ≡ set old.phases t (walked n t x (is_due p old.history t) (has_ended p old.history t) (went (answer_in old t (Post v))))) at w.phases in
    subst (λ (x : ℕ). InOrder n x (word_in new) (phase_of new)) (sym e.0)
    (post_step n t v old.turn (word_in old) (word_in new) (phase_of old) (phase_of new) k at
    (words_changed p v (bit_or (word_in old v) 2) old new o placed.0 e.1) (phases_changed p t old new _ o l phases))

release_turn : (p : Program) (t v : ℕ) (old new : Configuration) (lines : List ReplayLine) → IsOrderly p old → t < length p.threads → phase_of old t ≡ Releasing v →
    Walks p t (Release v) old lines new → IsOrdered p new
release_turn p t v old new lines o l at w =
    let n = length p.threads in
    let k = held_by p t (Releasing v) old o l at refl in
    let placed : IsPlaced n t (Releasing v) = subst (λ (x : Phase). IsPlaced n t x) at k.placed in
    let e = own_words old new v (clear 2 (word_in old v)) w.words in
    let phases : new.phases ≡ set old.phases t (releasing_from n t (v + 1)) =
    subst (λ (x : Phase). new.phases ≡ set old.phases t (walked n t x (is_due p old.history t) (has_ended p old.history t) (went (answer_in old t (Release v))))) at w.phases in
    subst (λ (x : ℕ). InOrder n x (word_in new) (phase_of new)) (sym e.0)
    (release_step n t v old.turn (word_in old) (word_in new) (phase_of old) (phase_of new) k at
    (words_changed p v (clear 2 (word_in old v)) old new o placed.0 e.1) (phases_changed p t old new _ o l phases))

return_turn : (p : Program) (t : ℕ) (old new : Configuration) (lines : List ReplayLine) → IsOrderly p old → t < length p.threads → phase_of old t ≡ Returning →
    Walks p t Return old lines new → IsOrdered p new
return_turn p t old new lines o l at w =
    let n = length p.threads in
    let k = held_by p t Returning old o l at refl in
    let e = turn_words old new 0 w.words in
    let phases : new.phases ≡ set old.phases t Outside =
    subst (λ (x : Phase). new.phases ≡ set old.phases t (walked n t x (is_due p old.history t) (has_ended p old.history t) (went (answer_in old t Return)))) at w.phases in
    subst (λ (x : ℕ). InOrder n x (word_in new) (phase_of new)) (sym e.0)
    (same_words p 0 old new e.1 (return_step n t old.turn (word_in old) (phase_of old) (phase_of new) k at (phases_changed p t old new _ o l phases)))

-- an event
collect_turn : (p : Program) (t : ℕ) (old new : Configuration) (lines : List ReplayLine) → IsOrderly p old → t < length p.threads → phase_of old t ≡ Collecting →
    HasEvent p t old lines new → IsOrdered p new
collect_turn p t old new lines o l at d =
    let n = length p.threads in
    let k = held_by p t Collecting old o l at refl in
    let phases : new.phases ≡ set old.phases t (releasing_from n t 0) =
    subst (λ (x : Phase). new.phases ≡ set old.phases t (happened n t x (stays_inside (replay p new.history) d.event))) at d.phases in
    subst (λ (x : ℕ). InOrder n x (word_in new) (phase_of new)) (sym d.turn)
    (same_words p old.turn old new d.words (collect_step n t old.turn (word_in old) (phase_of old) (phase_of new) k at (phases_changed p t old new _ o l phases)))

inside_turn : (p : Program) (t : ℕ) (old new : Configuration) (lines : List ReplayLine) → IsOrderly p old → t < length p.threads → phase_of old t ≡ Inside →
    HasEvent p t old lines new → IsOrdered p new
inside_turn p t old new lines o l at d =
    let n = length p.threads in
    let stays = stays_inside (replay p new.history) d.event in
    let q = happened n t Inside stays in
    let phases : new.phases ≡ set old.phases t q = subst (λ (x : Phase). new.phases ≡ set old.phases t (happened n t x stays)) at d.phases in
    subst (λ (x : ℕ). InOrder n x (word_in new) (phase_of new)) (sym d.turn)
    (same_words p old.turn old new d.words
    (own_step n t old.turn (word_in old) (word_in old) (phase_of old) (phase_of new) (word_in old t) q o.order (ap holds at)
    (record { own = refl; others = λ u apart. refl }) (phases_changed p t old new _ o l phases) (inside_calm n t stays)
    (λ stands word. subst (λ (x : Phase). IsOwnStep x q (word_in old t) stands) (sym at)
    (inside_event n t (word_in old t) stays stands (subst (λ (x : Phase). word_in old t ≡ own_bits x + stop_bit stands) at word))) l))

-- each turn, by its phase
pub order_kept : (p : Program) (t : ℕ) (old new : Configuration) (lines : List ReplayLine) → IsOrderly p old → t < length p.threads → IsTurn p t old lines new → IsOrdered p new
order_kept p t old new lines o l turn = by_phase (phase_of old t) (is_due p old.history t) refl refl turn
  where
    n : ℕ
    n = length p.threads

    due_is : Bool
    due_is = is_due p old.history t

    over : Bool
    over = has_ended p old.history t

    -- the phase after a step, by the phase before it
    after : (ph : Phase) → phase_of old t ≡ ph → (answered : StepAnswer) → new.phases ≡ set old.phases t (walked n t (phase_of old t) due_is over (went answered)) →
        new.phases ≡ set old.phases t (walked n t ph due_is over (went answered))
    after ph at answered e = subst (λ (x : Phase). new.phases ≡ set old.phases t (walked n t x due_is over (went answered))) at e

    by_phase : (ph : Phase) (due : Bool) → phase_of old t ≡ ph → is_due p old.history t ≡ due → Does p t (task_at ph due) old lines new → IsOrdered p new
    by_phase Parked due at asks d =
        own_turn p t (becomes t Resume (word_in old t)) Parked (walked n t Parked due_is over (went (answer Resume (word_in old t)))) old new o l at refl
        (resumed_calm n t due_is over (went (answer Resume (word_in old t)))) d.words (after Parked at (answer Resume (word_in old t)) d.phases) (λ stands word. resumed n t (word_in old t) due_is over stands word)
    by_phase Outside true at asks d = claim_turn p t old new lines o l at asks d
    by_phase Outside false at asks d =
        own_turn p t (becomes t Enter (word_in old t)) Outside (walked n t Outside false over (went (answer Enter (word_in old t)))) old new o l at refl
        (entered_calm n t over (went (answer Enter (word_in old t)))) d.words
        (subst (λ (b : Bool). new.phases ≡ set old.phases t (walked n t Outside b over (went (answer Enter (word_in old t))))) asks (after Outside at _ d.phases))
        (λ stands word. entered n t (word_in old t) over stands word)
    by_phase Inside due at asks d = inside_turn p t old new lines o l at d
    by_phase Leaving due at asks d =
        own_turn p t (becomes t Leave (word_in old t)) Leaving (walked n t Leaving due_is over (went (answer Leave (word_in old t)))) old new o l at refl
        (left_calm n t due_is over (went (answer Leave (word_in old t)))) d.words (after Leaving at (answer Leave (word_in old t)) d.phases) (λ stands word. left_section n t (word_in old t) due_is over stands word)
    by_phase Parking due at asks d =
        own_turn p t (becomes t Park (word_in old t)) Parking (walked n t Parking due_is over (went (answer Park (word_in old t)))) old new o l at refl
        (parked_calm n t due_is over (went (answer Park (word_in old t)))) d.words (after Parking at (answer Park (word_in old t)) d.phases) (λ stands word. parked n t (word_in old t) due_is over (went (answer Park (word_in old t))) stands word)
    by_phase (Posting v) due at asks d = post_turn p t v old new lines o l at d
    by_phase (Looking v) due at asks d = look_turn p t v old new lines o l at d
    by_phase Collecting due at asks d = collect_turn p t old new lines o l at d
    by_phase (Releasing v) due at asks d = release_turn p t v old new lines o l at d
    by_phase Returning due at asks d = return_turn p t old new lines o l at d
    by_phase Ended due at asks d = subst (λ (c : Configuration). IsOrdered p c) (sym d.same) o.order
