-- Many turns: they keep a configuration orderly, what is left of a run never rises, and a whole round makes it less.
use Rattle.std.proofs.Common.{◌≡◌, ◌≢◌, ℕ, zero, suc, ◌+◌, ◌<◌, ◌≤◌, ◌⊎◌, List, [], ◌∷◌, length, Bool, true, false, inl, inr, refl, sym, ◌∙◌, ap, subst, arith}
use Rattle.std.proofs.lemmas.Bool.{cases_Bool, cases_eq, cases_lt, false≢true}
use Rattle.std.proofs.lemmas.List.{get_or-replicate, length-replicate, get_or_past}
use Rattle.std.specs.Prelude.{if◌then◌else◌, ◌==◌}
use Rattle.std.specs.List.{range_with_len, AllByRecursion}
use Rattle.heap_terms.specs.declared.phases.Phase.{Phase}
use Rattle.heap_terms.specs.declared.phases.Phase.TheVariants.{Parked, Outside, Inside, Leaving, Parking, Posting, Looking, Collecting, Releasing, Returning, Ended}
use Rattle.heap_terms.specs.declared.programs.Program.{Program}
use Rattle.heap_terms.specs.declared.steps.ReplayLine.{ReplayLine}
use Rattle.heap_terms.specs.Heap.{Thread, start, thread_at}
use Rattle.heap_terms.specs.MachineTurns.{Configuration, machine_start, phase_of, is_due, has_ended}
use Rattle.heap_terms.specs.Runs.{AreTurns}
use Rattle.heap_laws.specs.Limited.{IsLimited}
use Rattle.heap_laws.proofs.SoundHeaps.{start_thread_is}
use Rattle.machine_laws.specs.Fitting.{Fits}
use Rattle.machine_laws.specs.Measure.{measure, IsMover, IsMoverFor}
use Rattle.machine_laws.specs.Order.{own_bits, holds, IsPlaced}
use Rattle.machine_laws.specs.Orderly.{IsOrderly}
use Rattle.machine_laws.proofs.EventFacts.{over_is}
use Rattle.machine_laws.proofs.FitsKept.{turn_orderly}
use Rattle.machine_laws.proofs.TurnFalls.{turn_falls}

-- before the first turn
pub start_orderly : (p : Program) → IsOrderly p (machine_start p)
start_orderly p =
    let n = length p.threads in
    let parked : (t : ℕ) → t < n → phase_of (machine_start p) t ≡ Parked = λ t l. get_or-replicate n t Parked Ended l in
    record {
      lawful = tt;
      words_count = length-replicate n 4;
      phases_count = length-replicate n Parked;
      order = inl (record {
        free = refl;
        nobody = λ t l. ap holds (parked t l);
        words_are = λ t l. get_or-replicate n t 4 0 l ∙ ap own_bits (sym (parked t l));
      });
      fits = λ t l. subst (λ (ph : Phase). Fits ph (is_due p [] t) (has_ended p [] t) (thread_at (start p) t).inhibits) (sym (parked t l))
          (over_is p (start p) t ∙ ap (λ (th : Thread). th.ended) (start_thread_is p t l), ap (λ (th : Thread). th.inhibits) (start_thread_is p t l));
    }

-- each of a list of threads is one of the program
abbrev pub AreThreads : Program → List ℕ → Type 0
AreThreads p ts = AllByRecursion (λ t. t < length p.threads) ts

-- many turns keep a configuration orderly
pub turns_orderly : (p : Program) (ts : List ℕ) (old new : Configuration) (lines : List ReplayLine) → IsLimited p → IsOrderly p old → AreThreads p ts →
    AreTurns p ts old lines new → IsOrderly p new
turns_orderly p [] old new lines limits o named turns = subst (λ (c : Configuration). IsOrderly p c) (sym turns.1) o
turns_orderly p (t ∷ ts) old new lines limits o named turns =
    turns_orderly p ts turns.0 new turns.1 limits (turn_orderly p t old turns.0 turns.2.own limits o named.0 turns.2.turn) named.1 turns.3

-- and what is left never rises
pub turns_never_rise : (p : Program) (ts : List ℕ) (old new : Configuration) (lines : List ReplayLine) → IsLimited p → IsOrderly p old → AreThreads p ts →
    AreTurns p ts old lines new → measure p new ≤ measure p old
turns_never_rise p [] old new lines limits o named turns = (let same = ap (measure p) turns.1 in omega arith)
turns_never_rise p (t ∷ ts) old new lines limits o named turns =
    let rest = turns_never_rise p ts turns.0 new turns.1 limits (turn_orderly p t old turns.0 turns.2.own limits o named.0 turns.2.turn) named.1 turns.3 in
    elim (turn_falls p t old turns.0 turns.2.own limits o named.0 turns.2.turn) [
      | inl less ↦ omega arith
      | inr quiet ↦ (let same = quiet.same in omega arith)
    ]

-- a thread is one of a list
abbrev pub IsIn : ℕ → List ℕ → Type 0
IsIn m [] = ⊥
IsIn m (t ∷ ts) = (m ≡ t) ⊎ IsIn m ts

-- where a mover is among them, they make less of it
pub mover_falls : (p : Program) (m : ℕ) (ts : List ℕ) (old new : Configuration) (lines : List ReplayLine) → IsLimited p → IsOrderly p old → AreThreads p ts →
    AreTurns p ts old lines new → IsMover old.turn (phase_of old) m → IsIn m ts → measure p new < measure p old
mover_falls p m [] old new lines limits o named turns mover listed = absurd listed
mover_falls p m (t ∷ ts) old new lines limits o named turns mover listed =
    let between = turn_orderly p t old turns.0 turns.2.own limits o named.0 turns.2.turn in
    elim (turn_falls p t old turns.0 turns.2.own limits o named.0 turns.2.turn) [
      | inl less ↦ (let rest = turns_never_rise p ts turns.0 new turns.1 limits between named.1 turns.3 in omega arith)
      | inr quiet ↦ (
          let later : IsIn m ts = elim listed [
            | inl same ↦ absurd (quiet.idle (subst (λ (u : ℕ). IsMover old.turn (phase_of old) u) same mover))
            | inr rest ↦ rest
          ] in
          let rest = mover_falls p m ts turns.0 new turns.1 limits between named.1 turns.3 (quiet.movers m mover) later in
          let same = quiet.same in
          omega arith)
    ]

pub in_range : (m a n : ℕ) → a ≤ m → m < a + n → IsIn m (range_with_len a n)
in_range m a zero low high = absurd (omega arith)
in_range m a (suc n) low high = elim (cases_eq m a) [
  | inl same ↦ inl same
  | inr other ↦ inr (in_range m (a + 1) n (omega arith) (omega arith))
]

pub range_named : (p : Program) (a n : ℕ) → a + n ≤ length p.threads → AreThreads p (range_with_len a n)
range_named p a zero high = tt
range_named p a (suc n) high = (omega arith, range_named p (a + 1) n (omega arith))

-- whether a thread is at its end
abbrev pub is_at_end : Phase → Bool
is_at_end Parked = false
is_at_end Outside = false
is_at_end Inside = false
is_at_end Leaving = false
is_at_end Parking = false
is_at_end (Posting u) = false
is_at_end (Looking u) = false
is_at_end Collecting = false
is_at_end (Releasing u) = false
is_at_end Returning = false
is_at_end Ended = true

at_end : (ph : Phase) → is_at_end ph ≡ true → ph ≡ Ended
at_end Parked e = absurd (false≢true e)
at_end Outside e = absurd (false≢true e)
at_end Inside e = absurd (false≢true e)
at_end Leaving e = absurd (false≢true e)
at_end Parking e = absurd (false≢true e)
at_end (Posting u) e = absurd (false≢true e)
at_end (Looking u) e = absurd (false≢true e)
at_end Collecting e = absurd (false≢true e)
at_end (Releasing u) e = absurd (false≢true e)
at_end Returning e = absurd (false≢true e)
at_end Ended e = refl

-- all of n threads are at their ends, or one is not
ends_or_not : (phases : ℕ → Phase) (n : ℕ) → ((t : ℕ) → t < n → phases t ≡ Ended) ⊎ ((t : ℕ) × (t < n) × (phases t ≢ Ended))
ends_or_not phases zero = inl (λ t l. absurd (omega arith))
ends_or_not phases (suc n) = elim (ends_or_not phases n) [
  | inr found ↦ inr (found.0, (let l = found.1 in omega arith), found.2)
  | inl all ↦ elim (cases_Bool (is_at_end (phases n))) [
    | inr goes ↦ inr (n, omega arith, λ e. false≢true (sym goes ∙ ap is_at_end e))
    | inl ended ↦ inl (λ t l. elim (cases_eq t n) [
      | inl same ↦ ap phases same ∙ at_end (phases n) ended
      | inr other ↦ all t (omega arith)
    ])
  ]
]

-- the holder of the turn has a mover
held_mover : (n h : ℕ) (ph : Phase) (phases : ℕ → Phase) → h < n → IsPlaced n h ph → (m : ℕ) × (m < n) × IsMoverFor ph h phases m
held_mover n h Parked phases l placed = (h, l, refl)
held_mover n h Outside phases l placed = (h, l, refl)
held_mover n h Inside phases l placed = (h, l, refl)
held_mover n h Leaving phases l placed = (h, l, refl)
held_mover n h Parking phases l placed = (h, l, refl)
held_mover n h (Posting u) phases l placed = (h, l, refl)
held_mover n h (Looking u) phases l placed = ((if own_bits (phases u) == 4 then h else u), one (own_bits (phases u) == 4), refl)
  where
    one : (b : Bool) → (if b then h else u) < n
    one true = l
    one false = placed.0
held_mover n h Collecting phases l placed = (h, l, refl)
held_mover n h (Releasing u) phases l placed = (h, l, refl)
held_mover n h Returning phases l placed = (h, l, refl)
held_mover n h Ended phases l placed = (h, l, refl)

-- while some thread is not at its end there is a mover
pub a_mover : (p : Program) (c : Configuration) (t : ℕ) → IsOrderly p c → t < length p.threads → phase_of c t ≢ Ended →
    (m : ℕ) × (m < length p.threads) × IsMover c.turn (phase_of c) m
a_mover p c t o l goes = elim o.order [
  | inl f ↦ (t, l, subst (λ (turn : ℕ). IsMover turn (phase_of c) t) (sym f.free) goes)
  | inr held ↦ (
      let found = held_mover (length p.threads) held.0 (phase_of c held.0) (phase_of c) held.1.holder held.1.placed in
      (found.0, found.1, subst (λ (turn : ℕ). IsMover turn (phase_of c) found.0) (sym held.1.turn_is) found.2))
]

-- a whole round of all threads makes less of what is left, while some thread is not at its end
pub round_falls : (p : Program) (t : ℕ) (old new : Configuration) (lines : List ReplayLine) → IsLimited p → IsOrderly p old → t < length p.threads → phase_of old t ≢ Ended →
    AreTurns p (range_with_len 0 (length p.threads)) old lines new → measure p new < measure p old
round_falls p t old new lines limits o l goes turns =
    let found = a_mover p old t o l goes in
    mover_falls p found.0 (range_with_len 0 (length p.threads)) old new lines limits o (range_named p 0 (length p.threads) (omega arith)) turns found.2
    (in_range found.0 0 (length p.threads) (omega arith) (let below = found.1 in omega arith))

pub round_or_end : (p : Program) (old new : Configuration) (lines : List ReplayLine) → IsLimited p → IsOrderly p old →
    AreTurns p (range_with_len 0 (length p.threads)) old lines new → (measure p new < measure p old) ⊎ ((t : ℕ) → phase_of old t ≡ Ended)
round_or_end p old new lines limits o turns = elim (ends_or_not (phase_of old) (length p.threads)) [
  | inl all ↦ inr (λ t. elim (cases_lt t (length p.threads)) [
    | inl l ↦ all t l
    | inr past ↦ get_or_past old.phases t Ended (let same = o.phases_count in omega arith)
  ])
  | inr found ↦ inl (round_falls p found.0 old new lines limits o found.1 found.2 turns)
]
