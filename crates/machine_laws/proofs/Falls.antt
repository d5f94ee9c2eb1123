-- Each turn makes less of what is left of a run, or leaves it and every mover as they are.
use Rattle.std.proofs.Common.{◌≡◌, ◌≢◌, ℕ, suc, ◌+◌, ◌-◌, ◌*◌, ◌<◌, ◌⊎◌, inl, inr, refl, sym, ◌∙◌, ap, subst, arith}
use Rattle.std.proofs.lemmas.Bool.{cases_Bool, ne_eqb, eq-eqb}
use Rattle.std.specs.Prelude.{◌==◌}
use Rattle.std.specs.List.{range_with_len, sum_by}
use Rattle.heap_terms.specs.declared.phases.Phase.{Phase}
use Rattle.heap_terms.specs.declared.phases.Phase.TheVariants.{Parked, Outside, Inside, Leaving, Parking, Posting, Looking, Collecting, Releasing, Returning, Ended}
use Rattle.heap_terms.specs.Phases.{posting_from}
use Rattle.heap_laws.proofs.EventSteps.{sum_change}
use Rattle.machine_laws.specs.Measure.{steps_left, steps_to_park, stage, steps_awaited, stage_weight, until_event, IsMover, IsMoverFor}
use Rattle.machine_laws.specs.Order.{own_bits}
use Rattle.machine_laws.proofs.Bounds.{steps_awaited_most, sum_most, fewer_stages, posting_stage}
use Rattle.machine_laws.proofs.Others.{IsChanged}

-- what a turn of thread t does to what is left until the next event, where no event comes
pub record IsQuiet (n t turn turn' : ℕ) (phases phases' : ℕ → Phase) : Type 0 where
  pub same : until_event n turn' phases' ≡ until_event n turn phases
  pub idle : ¬ IsMover turn phases t
  pub movers : (m : ℕ) → IsMover turn phases m → IsMover turn' phases' m

abbrev pub Goes : ℕ → ℕ → ℕ → ℕ → (ℕ → Phase) → (ℕ → Phase) → Type 0
Goes n t turn turn' phases phases' = (until_event n turn' phases' < until_event n turn phases) ⊎ IsQuiet n t turn turn' phases phases'

-- nothing changes
pub quiet_still : (n t turn : ℕ) (phases phases' : ℕ → Phase) → ((u : ℕ) → phases' u ≡ phases u) → ¬ IsMover turn phases t → Goes n t turn turn phases phases'
quiet_still n t turn phases phases' same idle = subst (λ (f : ℕ → Phase). Goes n t turn turn phases f) (λ i u. same' u i) (inr (record { same = refl; idle = idle; movers = λ m h. h }))
  where
    same' : (u : ℕ) → phases u ≡ phases' u
    same' u = sym (same u)

-- while the turn is free a thread comes nearer to its next event
pub free_falls : (n t : ℕ) (phases phases' : ℕ → Phase) (q : Phase) → t < n → IsChanged t q phases phases' → steps_left q < steps_left (phases t) → Goes n t 0 0 phases phases'
free_falls n t phases phases' q l c less =
    let change = sum_change (λ u. steps_left (phases u)) (λ u. steps_left (phases' u)) t 0 n (omega arith) (omega arith) (λ u apart. ap steps_left (c.others u apart)) in
    let own : steps_left (phases' t) ≡ steps_left q = ap steps_left c.own in
    inl (omega arith)

-- a claim
pub claim_falls : (n t : ℕ) (phases phases' : ℕ → Phase) → IsChanged t (posting_from n t 0) phases phases' → Goes n t 0 (suc t) phases phases'
claim_falls n t phases phases' c =
    let low = posting_stage n t 0 in
    let same : stage n (phases' t) ≡ stage n (posting_from n t 0) = ap (stage n) c.own in
    let few = steps_awaited_most (phases' t) phases' in
    let less : until_event n (suc t) phases' < (2 * n + 1) * stage_weight n = fewer_stages (stage n (phases' t)) (2 * n + 1) (steps_awaited (phases' t) phases') (stage_weight n) (omega arith) (omega arith) in
    inl (omega arith)

-- the holder comes to an earlier stage
pub stage_falls : (n h : ℕ) (phases phases' : ℕ → Phase) (q : Phase) → IsChanged h q phases phases' → stage n q < stage n (phases h) → Goes n h (suc h) (suc h) phases phases'
stage_falls n h phases phases' q c less =
    let same : stage n (phases' h) ≡ stage n q = ap (stage n) c.own in
    let few = steps_awaited_most (phases' h) phases' in
    let less : until_event n (suc h) phases' < stage n (phases h) * stage_weight n = fewer_stages (stage n (phases' h)) (stage n (phases h)) (steps_awaited (phases' h) phases') (stage_weight n) (omega arith) (omega arith) in
    inl (omega arith)

-- and gives the turn back
pub return_falls : (n h : ℕ) (phases phases' : ℕ → Phase) → phases h ≡ Returning → Goes n h (suc h) 0 phases phases'
return_falls n h phases phases' at =
    let few = sum_most phases' 0 n in
    let is : stage n (phases h) ≡ 2 * n + 2 = ap (stage n) at in
    let less : until_event n 0 phases' < stage n (phases h) * stage_weight n = fewer_stages (2 * n + 1) (stage n (phases h)) (sum_by (λ t. steps_left (phases' t)) (range_with_len 0 n)) (stage_weight n) (omega arith) (omega arith) in
    inl (omega arith)

-- a step of another thread than the holder, while nobody looks at it
pub idle_for : (ph : Phase) (h t : ℕ) (phases : ℕ → Phase) → t ≢ h → ((u : ℕ) → ph ≡ Looking u → t ≢ u) → ¬ IsMoverFor ph h phases t
idle_for Parked h t phases apart unseen m = apart m
idle_for Outside h t phases apart unseen m = apart m
idle_for Inside h t phases apart unseen m = apart m
idle_for Leaving h t phases apart unseen m = apart m
idle_for Parking h t phases apart unseen m = apart m
idle_for (Posting u) h t phases apart unseen m = apart m
idle_for (Looking u) h t phases apart unseen m = elim (cases_Bool (own_bits (phases u) == 4)) [
  | inl parked ↦ apart (rw parked at m)
  | inr goes ↦ unseen u refl (rw goes at m)
]
idle_for Collecting h t phases apart unseen m = apart m
idle_for (Releasing u) h t phases apart unseen m = apart m
idle_for Returning h t phases apart unseen m = apart m
idle_for Ended h t phases apart unseen m = apart m

movers_for : (ph : Phase) (h t m : ℕ) (phases phases' : ℕ → Phase) → ((u : ℕ) → u ≢ t → phases' u ≡ phases u) → ((u : ℕ) → ph ≡ Looking u → t ≢ u) →
    IsMoverFor ph h phases m → IsMoverFor ph h phases' m
movers_for Parked h t m phases phases' same unseen mover = mover
movers_for Outside h t m phases phases' same unseen mover = mover
movers_for Inside h t m phases phases' same unseen mover = mover
movers_for Leaving h t m phases phases' same unseen mover = mover
movers_for Parking h t m phases phases' same unseen mover = mover
movers_for (Posting u) h t m phases phases' same unseen mover = mover
movers_for (Looking u) h t m phases phases' same unseen mover = rw (same u (λ e. unseen u refl (sym e))) mover
movers_for Collecting h t m phases phases' same unseen mover = mover
movers_for (Releasing u) h t m phases phases' same unseen mover = mover
movers_for Returning h t m phases phases' same unseen mover = mover
movers_for Ended h t m phases phases' same unseen mover = mover

awaited_same : (ph : Phase) (t : ℕ) (phases phases' : ℕ → Phase) → ((u : ℕ) → u ≢ t → phases' u ≡ phases u) → ((u : ℕ) → ph ≡ Looking u → t ≢ u) →
    steps_awaited ph phases' ≡ steps_awaited ph phases
awaited_same Parked t phases phases' same unseen = refl
awaited_same Outside t phases phases' same unseen = refl
awaited_same Inside t phases phases' same unseen = refl
awaited_same Leaving t phases phases' same unseen = refl
awaited_same Parking t phases phases' same unseen = refl
awaited_same (Posting u) t phases phases' same unseen = refl
awaited_same (Looking u) t phases phases' same unseen = ap steps_to_park (same u (λ e. unseen u refl (sym e)))
awaited_same Collecting t phases phases' same unseen = refl
awaited_same (Releasing u) t phases phases' same unseen = refl
awaited_same Returning t phases phases' same unseen = refl
awaited_same Ended t phases phases' same unseen = refl

pub unseen_quiet : (n h t : ℕ) (phases phases' : ℕ → Phase) (q : Phase) → t ≢ h → IsChanged t q phases phases' → ((u : ℕ) → phases h ≡ Looking u → t ≢ u) →
    Goes n t (suc h) (suc h) phases phases'
unseen_quiet n h t phases phases' q apart c unseen =
    let stays : phases' h ≡ phases h = c.others h (λ e. apart (sym e)) in
    let awaited = awaited_same (phases h) t phases phases' c.others unseen in
    inr (record {
      same = (let e : until_event n (suc h) phases' ≡ stage n (phases h) * stage_weight n + steps_awaited (phases h) phases' = ap (λ (ph : Phase). stage n ph * stage_weight n + steps_awaited ph phases') stays in omega arith);
      idle = idle_for (phases h) h t phases apart unseen;
      movers = λ m mover. subst (λ (ph : Phase). IsMoverFor ph h phases' m) (sym stays) (movers_for (phases h) h t m phases phases' c.others unseen mover);
    })

-- a thread that the holder looks at comes nearer to being parked
pub seen_falls : (n h t : ℕ) (phases phases' : ℕ → Phase) (q : Phase) → t ≢ h → IsChanged t q phases phases' → phases h ≡ Looking t → steps_to_park q < steps_to_park (phases t) →
    Goes n t (suc h) (suc h) phases phases'
seen_falls n h t phases phases' q apart c looks less =
    let stays : phases' h ≡ Looking t = c.others h (λ e. apart (sym e)) ∙ looks in
    let now : until_event n (suc h) phases' ≡ (n - t) * stage_weight n + steps_to_park (phases' t) = ap (λ (ph : Phase). stage n ph * stage_weight n + steps_awaited ph phases') stays in
    let before : until_event n (suc h) phases ≡ (n - t) * stage_weight n + steps_to_park (phases t) = ap (λ (ph : Phase). stage n ph * stage_weight n + steps_awaited ph phases) looks in
    let own : steps_to_park (phases' t) ≡ steps_to_park q = ap steps_to_park c.own in
    inl (omega arith)

-- and is no mover once it is parked
pub seen_idle : (h t : ℕ) (phases : ℕ → Phase) → t ≢ h → phases h ≡ Looking t → own_bits (phases t) ≡ 4 → ¬ IsMover (suc h) phases t
seen_idle h t phases apart looks parked m =
    let m' : IsMoverFor (Looking t) h phases t = subst (λ (ph : Phase). IsMoverFor ph h phases t) looks m in
    apart (rw (eq-eqb (own_bits (phases t)) 4 parked) at m')

-- the holder itself is none while the thread at which it looks is not parked
pub holder_idle : (h v : ℕ) (phases : ℕ → Phase) → v ≢ h → phases h ≡ Looking v → own_bits (phases v) ≢ 4 → ¬ IsMover (suc h) phases h
holder_idle h v phases apart looks goes m =
    let m' : IsMoverFor (Looking v) h phases h = subst (λ (ph : Phase). IsMoverFor ph h phases h) looks m in
    let e : h ≡ v = rw (ne_eqb (own_bits (phases v)) 4 goes) at m' in
    apart (sym e)
