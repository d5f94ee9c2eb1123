-- Each turn makes less of what is left of a run, or leaves it and every mover as they are: phase by phase.
use Rattle.std.proofs.Common.{◌≡◌, ◌≢◌, ℕ, suc, ◌+◌, ◌-◌, ◌*◌, ◌<◌, ◌⊎◌, List, length, Bool, true, false, inl, inr, refl, sym, ◌∙◌, ap, subst, arith, set}
use Rattle.std.proofs.lemmas.Bool.{cases_Bool, cases_eq, false≢true, true≢false, ne_eqb}
use Rattle.std.specs.Prelude.{if◌then◌else◌, ◌==◌}
use Rattle.heap_terms.specs.declared.events.Event.{Event}
use Rattle.heap_terms.specs.declared.phases.Phase.{Phase}
use Rattle.heap_terms.specs.declared.phases.Phase.TheVariants.{Parked, Outside, Inside, Leaving, Parking, Posting, Looking, Collecting, Releasing, Returning, Ended}
use Rattle.heap_terms.specs.declared.programs.Program.{Program}
use Rattle.heap_terms.specs.declared.steps.ReplayLine.{ReplayLine}
use Rattle.heap_terms.specs.declared.steps.StepAnswer.{StepAnswer}
use Rattle.heap_terms.specs.declared.steps.StepAnswer.TheVariants as answers
use Rattle.heap_terms.specs.declared.steps.WordStep.{WordStep}
use Rattle.heap_terms.specs.declared.steps.WordStep.TheVariants.{Resume, Enter, Leave, Park, Claim, Post, Look, Release, Return}
use Rattle.heap_terms.specs.Histories.{replay}
use Rattle.heap_terms.specs.MachineTurns.{Configuration, phase_of, is_due, has_ended, Does, IsTurn, answer_in, Walks, HasEvent}
use Rattle.heap_terms.specs.declared.phases.Task.{Task}
use Rattle.heap_terms.specs.declared.phases.Task.TheVariants.{Walk, Happen, Rest}
use Rattle.heap_terms.specs.Phases.{task_at, walked, went, looking_from, posting_from, releasing_from}
use Rattle.heap_terms.specs.WordMachine.{answer, becomes, has}
use Rattle.heap_laws.specs.Limited.{IsLimited}
use Rattle.heap_laws.specs.Remaining.{all_left}
use Rattle.machine_laws.specs.Measure.{steps_left, steps_to_park, stage, until_event, event_weight, measure, IsMover}
use Rattle.machine_laws.specs.Order.{own_bits, holds, stop_bit, is_stopped, IsFree, IsHeld, IsPlaced}
use Rattle.machine_laws.specs.Orderly.{IsOrderly, word_in}
use Rattle.machine_laws.proofs.Bounds.{until_event_most, fewer_stages, looking_stage, posting_stage, releasing_stage}
use Rattle.machine_laws.proofs.Falls.{Goes, quiet_still, free_falls, claim_falls, stage_falls, return_falls, unseen_quiet, seen_falls, seen_idle, holder_idle, idle_for}
use Rattle.machine_laws.proofs.FitsKept.{event_seen}
use Rattle.machine_laws.proofs.OrderKept.{own_words, turn_words, phases_changed, unchanged}

-- what a turn of thread t leaves of a run
abbrev pub GoesOn : Program → ℕ → Configuration → Configuration → Type 0
GoesOn p t old new = Goes (length p.threads) t old.turn new.turn (phase_of old) (phase_of new)

-- the phase that a step leads to, by the phase before it, what is due, and its answer
step_phase : (p : Program) (t : ℕ) (step : WordStep) (ph : Phase) (found : StepAnswer) (old new : Configuration) (lines : List ReplayLine) → Walks p t step old lines new →
    phase_of old t ≡ ph → answer_in old t step ≡ found →
    new.phases ≡ set old.phases t (walked (length p.threads) t ph (is_due p old.history t) (has_ended p old.history t) (went found))
step_phase p t step ph found old new lines w at answered =
    subst (λ (x : StepAnswer). new.phases ≡ set old.phases t (walked (length p.threads) t ph (is_due p old.history t) (has_ended p old.history t) (went x))) answered
    (subst (λ (x : Phase). new.phases ≡ set old.phases t (walked (length p.threads) t x (is_due p old.history t) (has_ended p old.history t) (went (answer_in old t step)))) at w.phases)

-- a turn that is free stays so, but for a claim
free_goes : (p : Program) (t : ℕ) (ph q : Phase) (old new : Configuration) → IsOrderly p old → t < length p.threads → old.turn ≡ 0 → new.turn ≡ old.turn → phase_of old t ≡ ph →
    new.phases ≡ set old.phases t q → steps_left q < steps_left ph → GoesOn p t old new
free_goes p t ph q old new o l free turn at phases less =
    let before : steps_left (phase_of old t) ≡ steps_left ph = ap steps_left at in
    rw (turn, free) (free_falls (length p.threads) t (phase_of old) (phase_of new) q l (phases_changed p t old new q o l phases) (omega arith))

free_turn : (p : Program) (t : ℕ) (old new : Configuration) (lines : List ReplayLine) → IsOrderly p old → t < length p.threads →
    IsFree (length p.threads) old.turn (word_in old) (phase_of old) → (step : WordStep) (ph : Phase) (due : Bool) → phase_of old t ≡ ph → is_due p old.history t ≡ due →
    task_at ph due ≡ Walk step → Walks p t step old lines new → GoesOn p t old new
free_turn p t old new lines o l f step ph due at asks task w = by_phase ph due at asks task
  where
    n : ℕ
    n = length p.threads

    word : (x : Phase) → phase_of old t ≡ x → word_in old t ≡ own_bits x
    word x e = f.words_are t l ∙ ap own_bits e

    by_phase : (ph : Phase) (due : Bool) → phase_of old t ≡ ph → is_due p old.history t ≡ due → task_at ph due ≡ Walk step → GoesOn p t old new
    by_phase Parked due at asks task =
        let is : Resume ≡ step = cc in
        let w' : Walks p t Resume old lines new = subst (λ (s : WordStep). Walks p t s old lines new) (sym is) w in
        let phases = step_phase p t Resume Parked answers.Went old new lines w' at (ap (λ (x : ℕ). answer Resume x) (word Parked at)) in
        free_goes p t Parked Outside old new o l f.free (own_words old new t _ w'.words).0 at phases (omega arith)
    by_phase Outside true at asks task =
        let is : Claim ≡ step = cc in
        let w' : Walks p t Claim old lines new = subst (λ (s : WordStep). Walks p t s old lines new) (sym is) w in
        let phases = step_phase p t Claim Outside answers.Went old new lines w' at (ap (λ (x : ℕ). answer Claim x) f.free) in
        let phases' : new.phases ≡ set old.phases t (posting_from n t 0) = rw asks at phases in
        let turn : new.turn ≡ suc t = (turn_words old new _ w'.words).0 ∙ ap (λ (x : ℕ). becomes t Claim x) f.free in
        rw (turn, f.free) (claim_falls n t (phase_of old) (phase_of new) (phases_changed p t old new _ o l phases'))
    by_phase Outside false at asks task =
        let is : Enter ≡ step = cc in
        let w' : Walks p t Enter old lines new = subst (λ (s : WordStep). Walks p t s old lines new) (sym is) w in
        let phases = step_phase p t Enter Outside answers.Went old new lines w' at (ap (λ (x : ℕ). answer Enter x) (word Outside at)) in
        let phases' : new.phases ≡ set old.phases t Inside = rw asks at phases in
        free_goes p t Outside Inside old new o l f.free (own_words old new t _ w'.words).0 at phases' (omega arith)
    by_phase Inside due at asks task = cc
    by_phase Leaving due at asks task =
        let is : Leave ≡ step = cc in
        let w' : Walks p t Leave old lines new = subst (λ (s : WordStep). Walks p t s old lines new) (sym is) w in
        let phases = step_phase p t Leave Leaving answers.Went old new lines w' at (ap (λ (x : ℕ). answer Leave x) (word Leaving at)) in
        free_goes p t Leaving (if has_ended p old.history t then Parking else Outside) old new o l f.free (own_words old new t _ w'.words).0 at phases (lower (has_ended p old.history t))
      where
        lower : (over : Bool) → steps_left (if over then Parking else Outside) < 5
        lower true = omega arith
        lower false = omega arith
    by_phase Parking due at asks task =
        let is : Park ≡ step = cc in
        let w' : Walks p t Park old lines new = subst (λ (s : WordStep). Walks p t s old lines new) (sym is) w in
        let phases = step_phase p t Park Parking answers.Went old new lines w' at refl in
        free_goes p t Parking (if has_ended p old.history t then Ended else Parked) old new o l f.free (own_words old new t _ w'.words).0 at phases (lower (has_ended p old.history t))
      where
        lower : (over : Bool) → steps_left (if over then Ended else Parked) < 4
        lower true = omega arith
        lower false = omega arith
    by_phase (Posting v) due at asks task = absurd (true≢false (ap holds (sym at) ∙ f.nobody t l))
    by_phase (Looking v) due at asks task = absurd (true≢false (ap holds (sym at) ∙ f.nobody t l))
    by_phase Collecting due at asks task = cc
    by_phase (Releasing v) due at asks task = absurd (true≢false (ap holds (sym at) ∙ f.nobody t l))
    by_phase Returning due at asks task = absurd (true≢false (ap holds (sym at) ∙ f.nobody t l))
    by_phase Ended due at asks task = cc

-- the holder's own turns
holder_turn : (p : Program) (h : ℕ) (old new : Configuration) (lines : List ReplayLine) → IsOrderly p old →
    IsHeld (length p.threads) h old.turn (word_in old) (phase_of old) → (step : WordStep) (ph : Phase) (due : Bool) → phase_of old h ≡ ph →
    task_at ph due ≡ Walk step → Walks p h step old lines new → GoesOn p h old new
holder_turn p h old new lines o k step ph due at task w = by_phase ph due at task
  where
    n : ℕ
    n = length p.threads

    by_stage : (ph q : Phase) → phase_of old h ≡ ph → new.turn ≡ old.turn → new.phases ≡ set old.phases h q → stage n q < stage n ph → GoesOn p h old new
    by_stage ph q at turn phases less =
        let before : stage n (phase_of old h) ≡ stage n ph = ap (stage n) at in
        rw (turn, k.turn_is) (stage_falls n h (phase_of old) (phase_of new) q (phases_changed p h old new q o k.holder phases) (omega arith))

    never : (ph : Phase) → phase_of old h ≡ ph → holds ph ≡ false → GoesOn p h old new
    never ph at none = absurd (true≢false (sym k.holding ∙ ap holds at ∙ none))

    by_phase : (ph : Phase) (due : Bool) → phase_of old h ≡ ph → task_at ph due ≡ Walk step → GoesOn p h old new
    by_phase Parked due at task = never Parked at refl
    by_phase Outside due at task = never Outside at refl
    by_phase Inside due at task = never Inside at refl
    by_phase Leaving due at task = never Leaving at refl
    by_phase Parking due at task = never Parking at refl
    by_phase (Posting v) due at task =
        let is : Post v ≡ step = cc in
        let w' : Walks p h (Post v) old lines new = subst (λ (s : WordStep). Walks p h s old lines new) (sym is) w in
        let placed : IsPlaced n h (Posting v) = subst (λ (x : Phase). IsPlaced n h x) at k.placed in
        let below = placed.0 in
        let low = posting_stage n h (v + 1) in
        by_stage (Posting v) (posting_from n h (v + 1)) at (own_words old new v _ w'.words).0 (step_phase p h (Post v) (Posting v) (answer_in old h (Post v)) old new lines w' at refl) (omega arith)
    by_phase (Looking v) due at task =
        let is : Look v ≡ step = cc in
        let w' : Walks p h (Look v) old lines new = subst (λ (s : WordStep). Walks p h s old lines new) (sym is) w in
        let placed : IsPlaced n h (Looking v) = subst (λ (x : Phase). IsPlaced n h x) at k.placed in
        let below = placed.0 in
        let low = looking_stage n h (v + 1) in
        let turn = (own_words old new v _ w'.words).0 in
        let word : word_in old v ≡ own_bits (phase_of old v) + 2 =
        subst (λ (x : Phase). word_in old v ≡ own_bits (phase_of old v) + stop_bit (is_stopped x v)) at (k.words_are v placed.0 placed.1) in
        elim (cases_Bool (has 4 (word_in old v))) [
          | inl parked ↦ by_stage (Looking v) (looking_from n h (v + 1)) at turn
              (step_phase p h (Look v) (Looking v) answers.Went old new lines w' at (ap (λ (b : Bool). if b then answers.Went else answers.NotYet) parked)) (omega arith)
          | inr waits ↦ (
              let phases : new.phases ≡ set old.phases h (Looking v) = step_phase p h (Look v) (Looking v) answers.NotYet old new lines w' at (ap (λ (b : Bool). if b then answers.Went else answers.NotYet) waits) in
              let goes : own_bits (phase_of old v) ≢ 4 = λ four. false≢true (sym waits ∙ ap (λ (x : ℕ). has 4 x) (word ∙ ap (λ (x : ℕ). x + 2) four)) in
              let idle = holder_idle h v (phase_of old) placed.1 at goes in
              rw (turn, k.turn_is) (quiet_still n h (suc h) (phase_of old) (phase_of new)
              (unchanged h (Looking v) (phase_of old) (phase_of new) (phases_changed p h old new (Looking v) o k.holder phases) at) idle))
        ]
    by_phase Collecting due at task = cc
    by_phase (Releasing v) due at task =
        let is : Release v ≡ step = cc in
        let w' : Walks p h (Release v) old lines new = subst (λ (s : WordStep). Walks p h s old lines new) (sym is) w in
        let placed : IsPlaced n h (Releasing v) = subst (λ (x : Phase). IsPlaced n h x) at k.placed in
        let below = placed.0 in
        let low = releasing_stage n h (v + 1) in
        by_stage (Releasing v) (releasing_from n h (v + 1)) at (own_words old new v _ w'.words).0 (step_phase p h (Release v) (Releasing v) answers.Went old new lines w' at refl) (omega arith)
    by_phase Returning due at task =
        let is : Return ≡ step = cc in
        let w' : Walks p h Return old lines new = subst (λ (s : WordStep). Walks p h s old lines new) (sym is) w in
        let turn = (turn_words old new 0 w'.words).0 in
        rw (turn, k.turn_is) (return_falls n h (phase_of old) (phase_of new) at)
    by_phase Ended due at task = cc

-- whether the holder looks at thread t
pub seen_case : (ph : Phase) (t : ℕ) → (ph ≡ Looking t) ⊎ ((u : ℕ) → ph ≡ Looking u → t ≢ u)
seen_case Parked t = inr (λ u e. cc)
seen_case Outside t = inr (λ u e. cc)
seen_case Inside t = inr (λ u e. cc)
seen_case Leaving t = inr (λ u e. cc)
seen_case Parking t = inr (λ u e. cc)
seen_case (Posting v) t = inr (λ u e. cc)
seen_case (Looking v) t = elim (cases_eq v t) [
  | inl same ↦ inl (ap Looking same)
  | inr other ↦ inr (λ u e same. other (let v_is : v ≡ u = cc in v_is ∙ sym same))
]
seen_case Collecting t = inr (λ u e. cc)
seen_case (Releasing v) t = inr (λ u e. cc)
seen_case Returning t = inr (λ u e. cc)
seen_case Ended t = inr (λ u e. cc)

-- the turns of the others while the turn is held
other_turn : (p : Program) (h t : ℕ) (old new : Configuration) (lines : List ReplayLine) → IsOrderly p old → t < length p.threads → t ≢ h →
    IsHeld (length p.threads) h old.turn (word_in old) (phase_of old) → (step : WordStep) (ph : Phase) (due : Bool) → phase_of old t ≡ ph → is_due p old.history t ≡ due →
    task_at ph due ≡ Walk step → Walks p t step old lines new → GoesOn p t old new
other_turn p h t old new lines o l apart k step ph due at asks task w = by_phase ph due at asks task
  where
    n : ℕ
    n = length p.threads

    -- the holder looks at the thread, or not
    by_seen : (ph q : Phase) → phase_of old t ≡ ph → new.turn ≡ old.turn → new.phases ≡ set old.phases t q →
        (phase_of old h ≡ Looking t → word_in old t ≡ own_bits ph + 2 → GoesOn p t old new) → GoesOn p t old new
    by_seen ph q at turn phases seen = elim (seen_case (phase_of old h) t) [
      | inl looks ↦ seen looks (k.words_are t l apart
          ∙ ap (λ (x : Phase). own_bits (phase_of old t) + stop_bit (is_stopped x t)) looks ∙ ap (λ (x : Phase). own_bits x + 2) at)
      | inr unseen ↦ rw (turn, k.turn_is) (unseen_quiet n h t (phase_of old) (phase_of new) q apart (phases_changed p t old new q o l phases) unseen)
    ]

    falls : (ph q : Phase) → phase_of old t ≡ ph → new.turn ≡ old.turn → phase_of old h ≡ Looking t → new.phases ≡ set old.phases t q → steps_to_park q < steps_to_park ph → GoesOn p t old new
    falls ph q at turn looks phases less =
        let before : steps_to_park (phase_of old t) ≡ steps_to_park ph = ap steps_to_park at in
        rw (turn, k.turn_is) (seen_falls n h t (phase_of old) (phase_of new) q apart (phases_changed p t old new q o l phases) looks (omega arith))

    held : (old.turn == 0) ≡ false
    held = ne_eqb old.turn 0 (λ none. let is = k.turn_is in omega arith)

    by_phase : (ph : Phase) (due : Bool) → phase_of old t ≡ ph → is_due p old.history t ≡ due → task_at ph due ≡ Walk step → GoesOn p t old new
    by_phase Parked due at asks task =
        let is : Resume ≡ step = cc in
        let w' : Walks p t Resume old lines new = subst (λ (s : WordStep). Walks p t s old lines new) (sym is) w in
        let turn = (own_words old new t _ w'.words).0 in
        by_seen Parked _ at turn w'.phases (λ looks word.
        let phases : new.phases ≡ set old.phases t Parked = step_phase p t Resume Parked answers.NotYet old new lines w' at (ap (λ (x : ℕ). answer Resume x) word) in
        rw (turn, k.turn_is) (quiet_still n t (suc h) (phase_of old) (phase_of new)
        (unchanged t Parked (phase_of old) (phase_of new) (phases_changed p t old new Parked o l phases) at)
        (seen_idle h t (phase_of old) apart looks (ap own_bits at))))
    by_phase Outside true at asks task =
        let is : Claim ≡ step = cc in
        let w' : Walks p t Claim old lines new = subst (λ (s : WordStep). Walks p t s old lines new) (sym is) w in
        let turn : new.turn ≡ old.turn = (turn_words old new _ w'.words).0 ∙ ap (λ (b : Bool). if b then suc t else old.turn) held in
        by_seen Outside _ at turn w'.phases (λ looks word.
        let phases : new.phases ≡ set old.phases t Parking = step_phase p t Claim Outside (answers.Taken (old.turn - 1)) old new lines w' at (ap (λ (b : Bool). if b then answers.Went else answers.Taken (old.turn - 1)) held) in
        falls Outside Parking at turn looks phases (omega arith))
    by_phase Outside false at asks task =
        let is : Enter ≡ step = cc in
        let w' : Walks p t Enter old lines new = subst (λ (s : WordStep). Walks p t s old lines new) (sym is) w in
        let turn = (own_words old new t _ w'.words).0 in
        by_seen Outside _ at turn w'.phases (λ looks word.
        let phases : new.phases ≡ set old.phases t Parking = step_phase p t Enter Outside answers.StopFound old new lines w' at (ap (λ (x : ℕ). answer Enter x) word) in
        falls Outside Parking at turn looks phases (omega arith))
    by_phase Inside due at asks task = cc
    by_phase Leaving due at asks task =
        let is : Leave ≡ step = cc in
        let w' : Walks p t Leave old lines new = subst (λ (s : WordStep). Walks p t s old lines new) (sym is) w in
        let turn = (own_words old new t _ w'.words).0 in
        by_seen Leaving _ at turn w'.phases (λ looks word.
        let phases : new.phases ≡ set old.phases t Parking = step_phase p t Leave Leaving answers.StopFound old new lines w' at (ap (λ (x : ℕ). answer Leave x) word) in
        falls Leaving Parking at turn looks phases (omega arith))
    by_phase Parking due at asks task =
        let is : Park ≡ step = cc in
        let w' : Walks p t Park old lines new = subst (λ (s : WordStep). Walks p t s old lines new) (sym is) w in
        let turn = (own_words old new t _ w'.words).0 in
        by_seen Parking _ at turn w'.phases (λ looks word.
        falls Parking (if has_ended p old.history t then Ended else Parked) at turn looks (step_phase p t Park Parking answers.Went old new lines w' at refl) (lower (has_ended p old.history t)))
      where
        lower : (over : Bool) → steps_to_park (if over then Ended else Parked) < 1
        lower true = omega arith
        lower false = omega arith
    by_phase (Posting v) due at asks task = absurd (true≢false (ap holds (sym at) ∙ k.nobody t l apart))
    by_phase (Looking v) due at asks task = absurd (true≢false (ap holds (sym at) ∙ k.nobody t l apart))
    by_phase Collecting due at asks task = cc
    by_phase (Releasing v) due at asks task = absurd (true≢false (ap holds (sym at) ∙ k.nobody t l apart))
    by_phase Returning due at asks task = absurd (true≢false (ap holds (sym at) ∙ k.nobody t l apart))
    by_phase Ended due at asks task = cc

-- a word step
walk_goes : (p : Program) (t : ℕ) (step : WordStep) (old new : Configuration) (lines : List ReplayLine) → IsOrderly p old → t < length p.threads →
    task_at (phase_of old t) (is_due p old.history t) ≡ Walk step → Walks p t step old lines new → GoesOn p t old new
walk_goes p t step old new lines o l task w = elim o.order [
  | inl f ↦ free_turn p t old new lines o l f step (phase_of old t) (is_due p old.history t) refl refl task w
  | inr held ↦ elim (cases_eq t held.0) [
    | inl same ↦ holder_turn p t old new lines o (subst (λ (h : ℕ). IsHeld (length p.threads) h old.turn (word_in old) (phase_of old)) (sym same) held.1) step (phase_of old t) (is_due p old.history t) refl task w
    | inr apart ↦ other_turn p held.0 t old new lines o l apart held.1 step (phase_of old t) (is_due p old.history t) refl refl task w
  ]
]

-- a thread at its end is no mover
ended_idle : (p : Program) (t : ℕ) (old : Configuration) → IsOrderly p old → t < length p.threads → phase_of old t ≡ Ended → ¬ IsMover old.turn (phase_of old) t
ended_idle p t old o l at = elim o.order [
  | inl f ↦ subst (λ (turn : ℕ). ¬ IsMover turn (phase_of old) t) (sym f.free) (λ m. m at)
  | inr held ↦ subst (λ (turn : ℕ). ¬ IsMover turn (phase_of old) t) (sym held.1.turn_is)
      (let h = held.0 in
      let apart : t ≢ h = λ same. true≢false (sym held.1.holding ∙ ap (λ (v : ℕ). holds (phase_of old v)) (sym same) ∙ ap holds at) in
      elim (seen_case (phase_of old h) t) [
        | inl looks ↦ seen_idle h t (phase_of old) apart looks (ap own_bits at)
        | inr unseen ↦ idle_for (phase_of old h) h t (phase_of old) apart unseen
      ])
]

-- what a turn leaves of a run
pub record LeavesAll (p : Program) (t : ℕ) (old new : Configuration) : Type 0 where
  pub same : measure p new ≡ measure p old
  pub idle : ¬ IsMover old.turn (phase_of old) t
  pub movers : (m : ℕ) → IsMover old.turn (phase_of old) m → IsMover new.turn (phase_of new) m

abbrev pub Falls : Program → ℕ → Configuration → Configuration → Type 0
Falls p t old new = (measure p new < measure p old) ⊎ LeavesAll p t old new

from_walk : (p : Program) (t : ℕ) (old new : Configuration) → new.history ≡ old.history → GoesOn p t old new → Falls p t old new
from_walk p t old new same goes =
    let left : all_left p (replay p new.history) * event_weight (length p.threads) ≡ all_left p (replay p old.history) * event_weight (length p.threads) =
    ap (λ (h : List Event). all_left p (replay p h) * event_weight (length p.threads)) same in
    elim goes [
      | inl less ↦ inl (omega arith)
      | inr quiet ↦ inr (record { same = (let e = quiet.same in omega arith); idle = quiet.idle; movers = quiet.movers })
    ]

event_falls : (p : Program) (t : ℕ) (old new : Configuration) (lines : List ReplayLine) → IsLimited p → IsOrderly p old → HasEvent p t old lines new → measure p new < measure p old
event_falls p t old new lines limits o d =
    let less = (event_seen p t old new lines limits o d).falls in
    let most = until_event_most (length p.threads) new.turn (phase_of new) in
    let falls = fewer_stages (all_left p (replay p new.history)) (all_left p (replay p old.history)) (until_event (length p.threads) new.turn (phase_of new)) (event_weight (length p.threads)) (omega arith) most in
    omega arith

pub turn_falls : (p : Program) (t : ℕ) (old new : Configuration) (lines : List ReplayLine) → IsLimited p → IsOrderly p old → t < length p.threads → IsTurn p t old lines new → Falls p t old new
turn_falls p t old new lines limits o l turn = by_task (task_at (phase_of old t) (is_due p old.history t)) refl turn
  where
    rests : (ph : Phase) (due : Bool) → task_at ph due ≡ Rest → ph ≡ Ended
    rests Parked due e = cc
    rests Outside due e = cc
    rests Inside due e = cc
    rests Leaving due e = cc
    rests Parking due e = cc
    rests (Posting v) due e = cc
    rests (Looking v) due e = cc
    rests Collecting due e = cc
    rests (Releasing v) due e = cc
    rests Returning due e = cc
    rests Ended due e = refl

    by_task : (task : Task) → task_at (phase_of old t) (is_due p old.history t) ≡ task → Does p t task old lines new → Falls p t old new
    by_task (Walk step) is d = from_walk p t old new d.history (walk_goes p t step old new lines o l is d)
    by_task Happen is d = inl (event_falls p t old new lines limits o d)
    by_task Rest is d = inr (record {
      same = ap (measure p) d.same;
      idle = ended_idle p t old o l (rests (phase_of old t) (is_due p old.history t) is);
      movers = λ m mover. subst (λ (c : Configuration). IsMover c.turn (phase_of c) m) (sym d.same) mover;
    })
