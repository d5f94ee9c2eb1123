-- A step of a thread on its own word, and an event of it, keep words and phases in order.
use Rattle.std.proofs.Common.{◌≡◌, ◌≢◌, ℕ, ◌+◌, ◌<◌, inl, inr, refl, sym, ◌∙◌, ap, subst, arith, Bool, true, false}
use Rattle.std.proofs.lemmas.Bool.{cases_eq, false≢true, true≢false}
use Rattle.heap_terms.specs.declared.phases.Phase.{Phase}
use Rattle.heap_terms.specs.declared.phases.Phase.TheVariants.{Parked, Outside, Inside, Leaving, Parking, Posting, Looking, Collecting, Releasing, Returning, Ended}
use Rattle.machine_laws.specs.Order.{own_bits, holds, is_stopped, is_found, stop_bit, InOrder, IsPlaced}
use Rattle.machine_laws.proofs.Others.{IsChanged, by_change}

-- whom the holder has found has a stop
pub found_stopped : (ph : Phase) (u : ℕ) → is_found ph u ≡ true → is_stopped ph u ≡ true
found_stopped Parked u e = absurd (false≢true e)
found_stopped Outside u e = absurd (false≢true e)
found_stopped Inside u e = absurd (false≢true e)
found_stopped Leaving u e = absurd (false≢true e)
found_stopped Parking u e = absurd (false≢true e)
found_stopped (Posting v) u e = absurd (false≢true e)
found_stopped (Looking v) u e = refl
found_stopped Collecting u e = refl
found_stopped (Releasing v) u e = e
found_stopped Returning u e = absurd (false≢true e)
found_stopped Ended u e = absurd (false≢true e)

-- a thread's own step: its new word is that of its new phase, with the stop that it had, and one that was found parked
-- stays parked
pub record IsOwnStep (old new : Phase) (word : ℕ) (stands : Bool) : Type 0 where
  pub word_is : word ≡ own_bits new + stop_bit stands
  pub found : stands ≡ true → own_bits old ≡ 4 → own_bits new ≡ 4

pub own_step : (n t turn : ℕ) (words words' : ℕ → ℕ) (phases phases' : ℕ → Phase) (w : ℕ) (ph : Phase) → InOrder n turn words phases → holds (phases t) ≡ false →
    IsChanged t w words words' → IsChanged t ph phases phases' → holds ph ≡ false →
    ((stands : Bool) → words t ≡ own_bits (phases t) + stop_bit stands → IsOwnStep (phases t) ph w stands) → t < n → InOrder n turn words' phases'
own_step n t turn words words' phases phases' w ph order calm cw cp calm' step inside = elim order [
  | inl f ↦ inl (record {
    free = f.free;
    nobody = λ u l. by_change (λ v x. holds x ≡ false) t ph phases phases' cp calm' u (λ _. f.nobody u l);
    words_are = λ u l. elim (cases_eq u t) [
      | inl same ↦ (
          let here = step false (let e = f.words_are t inside in omega arith) in
          let e : words' t ≡ own_bits (phases' t) = cw.own ∙ here.word_is ∙ (let z : own_bits ph + 0 ≡ own_bits ph = omega arith in z) ∙ ap own_bits (sym cp.own) in
          subst (λ (v : ℕ). words' v ≡ own_bits (phases' v)) (sym same) e)
      | inr other ↦ cw.others u other ∙ f.words_are u l ∙ ap own_bits (sym (cp.others u other))
    ];
  })
  | inr held ↦ (
      let h = held.0 in
      let k = held.1 in
      let apart : h ≢ t = λ same. true≢false (sym k.holding ∙ ap (λ (v : ℕ). holds (phases v)) same ∙ calm) in
      let stays : phases' h ≡ phases h = cp.others h apart in
      let here = step (is_stopped (phases h) t) (k.words_are t inside (λ e. apart (sym e))) in
      inr (
        h,
        record {
          holder = k.holder;
          turn_is = k.turn_is;
          holding = ap holds stays ∙ k.holding;
          placed = subst (λ (x : Phase). IsPlaced n h x) (sym stays) k.placed;
          own = cw.others h apart ∙ k.own;
          nobody = λ u l other. by_change (λ v x. holds x ≡ false) t ph phases phases' cp calm' u (λ _. k.nobody u l other);
          words_are = λ u l other. subst (λ (x : Phase). words' u ≡ own_bits (phases' u) + stop_bit (is_stopped x u)) (sym stays)
              (elim (cases_eq u t) [
                | inl same ↦ (
                    let e : words' t ≡ own_bits (phases' t) + stop_bit (is_stopped (phases h) t) = cw.own ∙ here.word_is ∙ ap (λ (x : Phase). own_bits x + stop_bit (is_stopped (phases h) t)) (sym cp.own) in
                    subst (λ (v : ℕ). words' v ≡ own_bits (phases' v) + stop_bit (is_stopped (phases h) v)) (sym same) e)
                | inr elsewhere ↦ cw.others u elsewhere ∙ k.words_are u l other ∙ ap (λ (x : Phase). own_bits x + stop_bit (is_stopped (phases h) u)) (sym (cp.others u elsewhere))
              ]);
          found = λ u l other seen.
              let seen' : is_found (phases h) u ≡ true = subst (λ (x : Phase). is_found x u ≡ true) stays seen in
              elim (cases_eq u t) [
                | inl same ↦ (
                    let seen_t : is_found (phases h) t ≡ true = subst (λ (v : ℕ). is_found (phases h) v ≡ true) same seen' in
                    let parked = k.found t inside (λ e. apart (sym e)) seen_t in
                    let e : own_bits (phases' t) ≡ 4 = ap own_bits cp.own ∙ here.found (found_stopped (phases h) t seen_t) parked in
                    subst (λ (v : ℕ). own_bits (phases' v) ≡ 4) (sym same) e)
                | inr elsewhere ↦ ap own_bits (cp.others u elsewhere) ∙ k.found u l other seen'
              ];
        },
      ))
]
