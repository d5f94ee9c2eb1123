-- Each word step is one that its thread may do, and a thread that collects is alone.
use Rattle.std.proofs.Common.{◌≡◌, ◌≢◌, ℕ, ◌+◌, ◌<◌, ◌≤◌, ◌⊎◌, length, Bool, true, false, inl, inr, refl, sym, ◌∙◌, ap, subst, arith}
use Rattle.std.proofs.lemmas.Bool.{cases_eq, cases_lt, true≢false, le-ltb}
use Rattle.std.proofs.lemmas.List.{get_or_past}
use Rattle.std.specs.Prelude.{not, nat_lt}
use Rattle.heap_terms.specs.declared.phases.Phase.{Phase}
use Rattle.heap_terms.specs.declared.phases.Phase.TheVariants.{Parked, Outside, Inside, Leaving, Parking, Posting, Looking, Collecting, Releasing, Returning, Ended}
use Rattle.heap_terms.specs.declared.programs.Program.{Program}
use Rattle.heap_terms.specs.declared.steps.WordStep.{WordStep}
use Rattle.heap_terms.specs.declared.steps.WordStep.TheVariants.{Resume, Enter, Leave, Park, Claim, Post, Look, Release, Return}
use Rattle.heap_terms.specs.Heap.{Thread, thread_at, ended_thread, fresh_thread}
use Rattle.heap_terms.specs.Histories.{replay}
use Rattle.heap_terms.specs.MachineTurns.{Configuration, phase_of, is_due, has_ended}
use Rattle.heap_terms.specs.declared.phases.Task.TheVariants.{Walk}
use Rattle.heap_terms.specs.Phases.{task_at}
use Rattle.heap_terms.specs.WellFormed.{IsWellFormed}
use Rattle.heap_terms.specs.WordMachine.{has, MayStep}
use Rattle.heap_laws.specs.Limited.{IsLimited}
use Rattle.heap_laws.proofs.EventSteps.{history-kept}
use Rattle.machine_laws.specs.Fitting.{Fits}
use Rattle.machine_laws.specs.Laws.{IsAlone}
use Rattle.machine_laws.specs.Order.{own_bits, holds, stop_bit, is_stopped, is_found, IsHeld, IsPlaced}
use Rattle.machine_laws.specs.Orderly.{IsOrderly, word_in}
use Rattle.machine_laws.proofs.HolderSteps.{holder_is}

-- a thread's word is its own bits, and perhaps a stop
pub own_word : (p : Program) (t : ℕ) (ph : Phase) (c : Configuration) → IsOrderly p c → t < length p.threads → phase_of c t ≡ ph → holds ph ≡ false →
    (stands : Bool) × (word_in c t ≡ own_bits ph + stop_bit stands)
own_word p t ph c o l at calm = elim o.order [
  | inl f ↦ (false, f.words_are t l ∙ ap own_bits at ∙ (let none : own_bits ph ≡ own_bits ph + 0 = omega arith in none))
  | inr held ↦ (
      let apart : t ≢ held.0 = λ same. true≢false (sym held.1.holding ∙ ap (λ (v : ℕ). holds (phase_of c v)) (sym same) ∙ ap holds at ∙ calm) in
      (is_stopped (phase_of c held.0) t, held.1.words_are t l apart ∙ ap (λ (x : Phase). own_bits x + stop_bit (is_stopped (phase_of c held.0) t)) at))
]

-- the word of a parked thread is 4, or 6 with a stop
pub parked_word : (p : Program) (t : ℕ) (c : Configuration) → IsOrderly p c → t < length p.threads → phase_of c t ≡ Parked → (word_in c t ≡ 4) ⊎ (word_in c t ≡ 6)
parked_word p t c o l at = let w = own_word p t Parked c o l at refl in by_stop w.0 w.1
  where
    by_stop : (stands : Bool) → word_in c t ≡ own_bits Parked + stop_bit stands → (word_in c t ≡ 4) ⊎ (word_in c t ≡ 6)
    by_stop true e = inr e
    by_stop false e = inl e

outside_word : (p : Program) (t : ℕ) (c : Configuration) → IsOrderly p c → t < length p.threads → phase_of c t ≡ Outside → (word_in c t ≡ 0) ⊎ (word_in c t ≡ 2)
outside_word p t c o l at = let w = own_word p t Outside c o l at refl in by_stop w.0 w.1
  where
    by_stop : (stands : Bool) → word_in c t ≡ own_bits Outside + stop_bit stands → (word_in c t ≡ 0) ⊎ (word_in c t ≡ 2)
    by_stop true e = inr e
    by_stop false e = inl e

held_by : (p : Program) (t : ℕ) (ph : Phase) (c : Configuration) → IsOrderly p c → t < length p.threads → phase_of c t ≡ ph → holds ph ≡ true →
    IsHeld (length p.threads) t c.turn (word_in c) (phase_of c)
held_by p t ph c o l at holding = holder_is (length p.threads) t c.turn (word_in c) (phase_of c) o.order l (ap holds at ∙ holding)

-- the bit of a stop stands where a stop does
stop_there : (ph : Phase) → has 2 (own_bits ph + 2) ≡ true
stop_there Parked = refl
stop_there Outside = refl
stop_there Inside = refl
stop_there Leaving = refl
stop_there Parking = refl
stop_there (Posting u) = refl
stop_there (Looking u) = refl
stop_there Collecting = refl
stop_there (Releasing u) = refl
stop_there Returning = refl
stop_there Ended = refl

no_stop_there : (ph : Phase) → has 2 (own_bits ph + 0) ≡ false
no_stop_there Parked = refl
no_stop_there Outside = refl
no_stop_there Inside = refl
no_stop_there Leaving = refl
no_stop_there Parking = refl
no_stop_there (Posting u) = refl
no_stop_there (Looking u) = refl
no_stop_there Collecting = refl
no_stop_there (Releasing u) = refl
no_stop_there Returning = refl
no_stop_there Ended = refl

pub may_step : (p : Program) (t : ℕ) (step : WordStep) (c : Configuration) → IsOrderly p c → t < length p.threads → task_at (phase_of c t) (is_due p c.history t) ≡ Walk step →
    MayStep t step c.turn c.words
may_step p t step c o l task = by_phase (phase_of c t) (is_due p c.history t) refl task
  where
    n : ℕ
    n = length p.threads

    long : (u : ℕ) → u < n → u < length c.words
    long u below = let same = o.words_count in omega arith

    by_phase : (ph : Phase) (due : Bool) → phase_of c t ≡ ph → task_at ph due ≡ Walk step → MayStep t step c.turn c.words
    by_phase Parked due at task = let is : Resume ≡ step = cc in subst (λ (s : WordStep). MayStep t s c.turn c.words) is (parked_word p t c o l at)
    by_phase Outside true at task = let is : Claim ≡ step = cc in subst (λ (s : WordStep). MayStep t s c.turn c.words) is (outside_word p t c o l at)
    by_phase Outside false at task = let is : Enter ≡ step = cc in subst (λ (s : WordStep). MayStep t s c.turn c.words) is (outside_word p t c o l at)
    by_phase Inside due at task = cc
    by_phase Leaving due at task =
        let is : Leave ≡ step = cc in
        let w = own_word p t Leaving c o l at refl in
        subst (λ (s : WordStep). MayStep t s c.turn c.words) is (ap (λ (x : ℕ). has 1 x) w.1 ∙ by_stop w.0)
      where
        by_stop : (stands : Bool) → has 1 (own_bits Leaving + stop_bit stands) ≡ true
        by_stop true = refl
        by_stop false = refl
    by_phase Parking due at task =
        let is : Park ≡ step = cc in
        let w = own_word p t Parking c o l at refl in
        subst (λ (s : WordStep). MayStep t s c.turn c.words) is (ap (λ (x : ℕ). has 1 x) w.1 ∙ in_none w.0, ap (λ (x : ℕ). has 4 x) w.1 ∙ not_parked w.0)
      where
        in_none : (stands : Bool) → has 1 (own_bits Parking + stop_bit stands) ≡ false
        in_none true = refl
        in_none false = refl

        not_parked : (stands : Bool) → has 4 (own_bits Parking + stop_bit stands) ≡ false
        not_parked true = refl
        not_parked false = refl
    by_phase (Posting v) due at task =
        let is : Post v ≡ step = cc in
        let k = held_by p t (Posting v) c o l at refl in
        let placed : IsPlaced n t (Posting v) = subst (λ (x : Phase). IsPlaced n t x) at k.placed in
        subst (λ (s : WordStep). MayStep t s c.turn c.words) is (long v placed.0, k.turn_is, placed.1)
    by_phase (Looking v) due at task =
        let is : Look v ≡ step = cc in
        let k = held_by p t (Looking v) c o l at refl in
        let placed : IsPlaced n t (Looking v) = subst (λ (x : Phase). IsPlaced n t x) at k.placed in
        let word : word_in c v ≡ own_bits (phase_of c v) + 2 = k.words_are v placed.0 placed.1 ∙ ap (λ (x : Phase). own_bits (phase_of c v) + stop_bit (is_stopped x v)) at in
        subst (λ (s : WordStep). MayStep t s c.turn c.words) is (long v placed.0, k.turn_is, ap (λ (x : ℕ). has 2 x) word ∙ stop_there (phase_of c v))
    by_phase Collecting due at task = cc
    by_phase (Releasing v) due at task =
        let is : Release v ≡ step = cc in
        let k = held_by p t (Releasing v) c o l at refl in
        let placed : IsPlaced n t (Releasing v) = subst (λ (x : Phase). IsPlaced n t x) at k.placed in
        let stands : not (nat_lt v v) ≡ true = ap not (le-ltb v v (omega arith)) in
        let word : word_in c v ≡ own_bits (phase_of c v) + 2 = k.words_are v placed.0 placed.1 ∙ ap (λ (x : Phase). own_bits (phase_of c v) + stop_bit (is_stopped x v)) at
        ∙ ap (λ (b : Bool). own_bits (phase_of c v) + stop_bit b) stands in
        let parked : own_bits (phase_of c v) ≡ 4 = k.found v placed.0 placed.1 (ap (λ (x : Phase). is_found x v) at ∙ stands) in
        let six : word_in c v ≡ 6 = word ∙ ap (λ (x : ℕ). x + 2) parked in
        subst (λ (s : WordStep). MayStep t s c.turn c.words) is (long v placed.0, k.turn_is, ap (λ (x : ℕ). has 2 x) six, ap (λ (x : ℕ). has 4 x) six)
    by_phase Returning due at task =
        let is : Return ≡ step = cc in
        let k = held_by p t Returning c o l at refl in
        subst (λ (s : WordStep). MayStep t s c.turn c.words) is (
          k.turn_is,
          λ u below. elim (cases_eq u t) [
            | inl same ↦ ap (λ (x : ℕ). has 2 x) (ap (word_in c) same ∙ k.own)
            | inr apart ↦ (
                let inside : u < n = (let same = o.words_count in omega arith) in
                ap (λ (x : ℕ). has 2 x) (k.words_are u inside apart ∙ ap (λ (x : Phase). own_bits (phase_of c u) + stop_bit (is_stopped x u)) at) ∙ no_stop_there (phase_of c u))
          ],
        )
    by_phase Ended due at task = cc

-- the turn is 0 or the number after its holder's
pub turn_most : (p : Program) (c : Configuration) → IsOrderly p c → c.turn ≤ length p.threads
turn_most p c o = elim o.order [
  | inl f ↦ (let none = f.free in omega arith)
  | inr held ↦ (let is = held.1.turn_is in let below = held.1.holder in omega arith)
]

-- the thread that a holder goes on with is another one
pub placed_in : (p : Program) (c : Configuration) (t : ℕ) (ph : Phase) → IsOrderly p c → t < length p.threads → phase_of c t ≡ ph → IsPlaced (length p.threads) t ph
placed_in p c t ph o l at = by_phase ph at
  where
    held : (x : Phase) → phase_of c t ≡ x → holds x ≡ true → IsPlaced (length p.threads) t x
    held x e holding = subst (λ (y : Phase). IsPlaced (length p.threads) t y) e (held_by p t x c o l e holding).placed

    by_phase : (x : Phase) → phase_of c t ≡ x → IsPlaced (length p.threads) t x
    by_phase Parked e = tt
    by_phase Outside e = tt
    by_phase Inside e = tt
    by_phase Leaving e = tt
    by_phase Parking e = tt
    by_phase (Posting u) e = held (Posting u) e refl
    by_phase (Looking u) e = held (Looking u) e refl
    by_phase Collecting e = tt
    by_phase (Releasing u) e = held (Releasing u) e refl
    by_phase Returning e = tt
    by_phase Ended e = tt

-- a thread that is parked does not inhibit
parked_allows : (ph : Phase) (due over : Bool) (inhibits : ℕ) → own_bits ph ≡ 4 → Fits ph due over inhibits → inhibits ≡ 0
parked_allows Parked due over inhibits e h = h.1
parked_allows Outside due over inhibits e h = absurd (omega arith)
parked_allows Inside due over inhibits e h = absurd (omega arith)
parked_allows Leaving due over inhibits e h = absurd (omega arith)
parked_allows Parking due over inhibits e h = absurd (omega arith)
parked_allows (Posting u) due over inhibits e h = absurd (omega arith)
parked_allows (Looking u) due over inhibits e h = absurd (omega arith)
parked_allows Collecting due over inhibits e h = absurd (omega arith)
parked_allows (Releasing u) due over inhibits e h = absurd (omega arith)
parked_allows Returning due over inhibits e h = absurd (omega arith)
parked_allows Ended due over inhibits e h = h.1

pub alone : (p : Program) (c : Configuration) (h : ℕ) → IsLimited p → IsOrderly p c → h < length p.threads → phase_of c h ≡ Collecting → IsAlone p c h
alone p c h limits o l at = record {
  stopped = λ u below apart. ap (λ (x : ℕ). has 2 x) (six u below apart);
  parked = λ u below apart. ap (λ (x : ℕ). has 4 x) (six u below apart);
  outside = λ u below apart. ap (λ (x : ℕ). has 1 x) (six u below apart);
  allowed = λ t. elim (cases_lt t (length p.threads)) [
    | inr past ↦ ap (λ (th : Thread). th.inhibits) (get_or_past (replay p c.history).threads t (ended_thread fresh_thread) (let same = well.threads_length in omega arith))
    | inl inside ↦ elim (cases_eq t h) [
      | inl same ↦ subst (λ (x : ℕ). (thread_at (replay p c.history) x).inhibits ≡ 0) (sym same) own.1
      | inr apart ↦ parked_allows (phase_of c t) (is_due p c.history t) (has_ended p c.history t) (thread_at (replay p c.history) t).inhibits (found t inside apart) (o.fits t inside)
    ]
  ];
  due = own.0;
}
  where
    k : IsHeld (length p.threads) h c.turn (word_in c) (phase_of c)
    k = held_by p h Collecting c o l at refl

    well : IsWellFormed p (replay p c.history)
    well = history-kept p c.history limits o.lawful

    own : Fits Collecting (is_due p c.history h) (has_ended p c.history h) (thread_at (replay p c.history) h).inhibits
    own = subst (λ (ph : Phase). Fits ph (is_due p c.history h) (has_ended p c.history h) (thread_at (replay p c.history) h).inhibits) at (o.fits h l)

    found : (u : ℕ) → u < length p.threads → u ≢ h → own_bits (phase_of c u) ≡ 4
    found u below apart = k.found u below apart (ap (λ (ph : Phase). is_found ph u) at)

    six : (u : ℕ) → u < length p.threads → u ≢ h → word_in c u ≡ 6
    six u below apart = k.words_are u below apart ∙ ap (λ (ph : Phase). own_bits (phase_of c u) + stop_bit (is_stopped ph u)) at ∙ ap (λ (x : ℕ). x + 2) (found u below apart)
