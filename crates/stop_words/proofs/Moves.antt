-- The kinds of step: each may be done, and tells what its `Play` says.
use Rattle.std.proofs.Common.{◌≡◌, ◌≢◌, ◌<◌, ℕ, zero, suc, Bool, true, false, List, [], ◌∷◌, Option, Some, length, set, eqb, refl, sym, ap, ◌∙◌, subst, ⊎_elim, length-set, ne_eqb, bit_and, bit_or, arith}
use Rattle.std.specs.Prelude.{slice_index}
use mathlib.Core.Option.{some, none}
use lib.ListN.{get_elem?}
use prog.Atomic.{either}
use Rattle.atomic_table.specs.Table.{State, Me, step, Act, Valid, homes_after, carried_after, Allows}
use Rattle.atomic_table.specs.Table.Act.{keeps, takes, gives, chain}
use Rattle.atomic_table.proofs.Lists.{set_here, set_else}
use Rattle.heap_terms.specs.declared.steps.WordStep.TheVariants.{Resume, Enter, Leave, Park, Claim, Post, Look, Release, Return}
use Rattle.heap_terms.specs.WordMachine.{becomes}
use Rattle.stop_words.specs.declared.view.Place.{Place}
use Rattle.stop_words.specs.declared.view.Place.TheVariants.{Parked, Outside, Inside, Holding}
use Rattle.stop_words.specs.declared.view.View.{View}
use Rattle.stop_words.specs.Places.{word_of, is_in, lists_at, is_home}
use Rattle.stop_words.specs.Views.{view_after, seeing, moved, counted}
use Rattle.stop_words.specs.Hands.{label, labels, picked, lying}
use Rattle.stop_words.specs.Rule.{FitsView, LiesAt, StopRule}
use Rattle.stop_words.specs.Plays.{Walked, Resumed, ParkedIn, Claimed, Posted, Looked, Released, Returned, IsWord}
use Rattle.stop_words.proofs.Basics.{if_other, same_or_not, le_or_lt, below, true_not_false}
use Rattle.stop_words.proofs.Rules.{Keeps, SlotChange, no_change, own_step, same_step, claim_step, return_step, post_step, look_step, release_step, is_below}
use Rattle.stop_words.proofs.Acts.{ins, inserted, Out, around, ins_works, picked_out, picked_more}

outside_not_holding : {p : Place} → p ≡ Outside → p ≢ Holding
outside_not_holding e h = let q : Outside ≡ Holding = sym e ∙ h in cc

parked_not_holding : {p : Place} → p ≡ Parked → p ≢ Holding
parked_not_holding e h = let q : Parked ≡ Holding = sym e ∙ h in cc

inside_not_holding : {p : Place} → p ≡ Inside → p ≢ Holding
inside_not_holding e h = let q : Inside ≡ Holding = sym e ∙ h in cc

slot_set : {P : Type 0} (homes : List (mathlib.Core.Option.Option (Option P))) (i : ℕ) (x : mathlib.Core.Option.Option (Option P)) → SlotChange homes (set homes i x) i
slot_set homes i x = record { count = length-set homes i x; others = λ t ne. set_else homes i t x ne }

module _ {P : Type 0} (owner : P → ℕ) (n : ℕ) where
  -- what a step owes, where it finds x in the word i and writes F x
  abbrev Owes : State (Option P) View → ℕ → Me (Option P) View → (ℕ → ℕ) → (ℕ → ℕ → Me (Option P) View → Type 0) → ℕ → ℕ → Type 0
  Owes s id m F T i x = (w : View) × (a : Act (Option P)) × Valid s.homes m.1 a × StopRule owner n (record { words = set s.words i (F x); homes = homes_after s.homes m.1 a; views = set s.views id w }) × T i x (w, carried_after m.1 a)

  moves_to : (s : State (Option P) View) (id : ℕ) (m : Me (Option P) View) (F : ℕ → ℕ) (T : ℕ → ℕ → Me (Option P) View → Type 0) (i k x : ℕ) → i ≡ k → slice_index s.words k ≡ x → Owes s id m F T k x → Owes s id m F T i (slice_index s.words i)
  moves_to s id m F T i k x e f o = subst (λ j. Owes s id m F T j (slice_index s.words j)) (sym e) (subst (λ y. Owes s id m F T k y) (sym f) o)

  pub enters : (slots id i : ℕ) (m : Me (Option P) View) → i ≡ suc m.0.thread → m.0.place ≡ Outside
      → Allows (StopRule owner n) slots id m i (λ x. either (eqb x 0) 1 x) (Walked owner Enter (step slots i 0 1 none) m)
  enters slots id i m at_i placed s r size at fits =
      let mine = r.views id m.0 at in
      let here : r.places id ≡ Outside = sym mine.at ∙ placed in
      let b = is_in id r.posted_now in
      moves_to s id m (λ x. either (eqb x 0) 1 x) (λ k x. Walked owner Enter (step slots k 0 1 none) m x) i (suc id) (word_of Outside b)
      (at_i ∙ ap suc mine.number) (r.words id (is_below owner n s r id m.0 at) ∙ ap (λ p. word_of p b) here) (by_stop r mine here b refl)
    where
      by_stop : (r : StopRule owner n s) → FitsView r.places r.posted_now r.seen_now (length s.views) id m.0 → r.places id ≡ Outside → (b : Bool) → is_in id r.posted_now ≡ b
          → Owes s id m (λ x. either (eqb x 0) 1 x) (λ k x. Walked owner Enter (step slots k 0 1 none) m x) (suc id) (word_of Outside b)
      by_stop r mine here false e = (
        view_after Enter 0 m.0,
        keeps,
        tt,
        own_step owner n s r id m.0 at (outside_not_holding here) Inside (inside_not_holding refl) (λ z. let q : Outside ≡ Parked = sym here ∙ (r.seen_in id z).1 in cc) 1 (ap (word_of Inside) (sym e)) s.homes (no_change s.homes id)
            (subst (λ p. LiesAt owner s.homes id (is_home p (is_in id r.seen_now))) here (r.slots id (is_below owner n s r id m.0 at))) (view_after Enter 0 m.0) (record { thread = refl; given = refl }) refl refl refl,
        (refl, refl, (false, ap (λ p. word_of p false) (sym placed))),
      )
      by_stop r mine here true e = (
        view_after Enter 2 m.0,
        keeps,
        tt,
        same_step owner n s r id m.0 at (suc id) 2 (r.words id (is_below owner n s r id m.0 at) ∙ ap (λ p. word_of p (is_in id r.posted_now)) here ∙ ap (word_of Outside) e) (view_after Enter 2 m.0) (record { thread = refl; given = refl }) refl refl refl,
        (refl, refl, (true, ap (λ p. word_of p true) (sym placed))),
      )

  pub leaves : (slots id i : ℕ) (m : Me (Option P) View) → i ≡ suc m.0.thread → m.0.place ≡ Inside
      → Allows (StopRule owner n) slots id m i (λ x. bit_and x 18446744073709551614) (Walked owner Leave (step slots i 18446744073709551614 0 none) m)
  leaves slots id i m at_i placed s r size at fits =
      let mine = r.views id m.0 at in
      let here : r.places id ≡ Inside = sym mine.at ∙ placed in
      let b = is_in id r.posted_now in
      moves_to s id m (λ x. bit_and x 18446744073709551614) (λ k x. Walked owner Leave (step slots k 18446744073709551614 0 none) m x) i (suc id) (word_of Inside b)
      (at_i ∙ ap suc mine.number) (r.words id (is_below owner n s r id m.0 at) ∙ ap (λ p. word_of p b) here) (
        view_after Leave (word_of Inside b) m.0,
        keeps,
        tt,
        own_step owner n s r id m.0 at (inside_not_holding here) Outside (outside_not_holding refl) (λ z. let q : Inside ≡ Parked = sym here ∙ (r.seen_in id z).1 in cc) (bit_and (word_of Inside b) 18446744073709551614) (left b) s.homes (no_change s.homes id)
            (subst (λ p. LiesAt owner s.homes id (is_home p (is_in id r.seen_now))) here (r.slots id (is_below owner n s r id m.0 at))) (view_after Leave (word_of Inside b) m.0) (record { thread = refl; given = refl }) refl refl refl,
        (refl, refl, (b, ap (λ p. word_of p b) (sym placed))),
      )
    where
      left : (b : Bool) → bit_and (word_of Inside b) 18446744073709551614 ≡ word_of Outside b
      left true = refl
      left false = refl

  unseen : (s : State (Option P) View) (r : StopRule owner n s) (u : ℕ) → is_in u r.posted_now ≡ false → is_in u r.seen_now ≡ false
  unseen s r u e = by_test (is_in u r.seen_now) refl
    where
      by_test : (t : Bool) → is_in u r.seen_now ≡ t → is_in u r.seen_now ≡ false
      by_test true t = absurd (true_not_false (sym (r.seen_in u t).0 ∙ e))
      by_test false t = t

  -- the parcel of a thread that is parked and not seen
  at_home : (s : State (Option P) View) (r : StopRule owner n s) (u : ℕ) → u < n → r.places u ≡ Parked → is_in u r.seen_now ≡ false → LiesAt owner s.homes u true
  at_home s r u lt parked not_seen = subst (λ b. LiesAt owner s.homes u b) (ap (λ p. is_home p (is_in u r.seen_now)) parked ∙ ap (is_home Parked) not_seen) (r.slots u lt)

  pub resumes : (slots id i : ℕ) (m : Me (Option P) View) → i ≡ suc m.0.thread → m.0.place ≡ Parked → m.1 ≡ []
      → Allows (StopRule owner n) slots id m i (λ x. either (eqb x 4) 0 x) (Resumed owner (step slots i 4 0 none) m)
  resumes slots id i m at_i placed empty s r size at fits =
      let mine = r.views id m.0 at in
      let here : r.places id ≡ Parked = sym mine.at ∙ placed in
      let b = is_in id r.posted_now in
      moves_to s id m (λ x. either (eqb x 4) 0 x) (λ k x. Resumed owner (step slots k 4 0 none) m x) i (suc id) (word_of Parked b)
      (at_i ∙ ap suc mine.number) (r.words id (is_below owner n s r id m.0 at) ∙ ap (λ p. word_of p b) here) (by_stop r mine here b refl)
    where
      by_stop : (r : StopRule owner n s) → FitsView r.places r.posted_now r.seen_now (length s.views) id m.0 → r.places id ≡ Parked → (b : Bool) → is_in id r.posted_now ≡ b
          → Owes s id m (λ x. either (eqb x 4) 0 x) (λ k x. Resumed owner (step slots k 4 0 none) m x) (suc id) (word_of Parked b)
      by_stop r mine here false e =
          let lt = is_below owner n s r id m.0 at in
          let not_seen = unseen s r id e in
          let home = at_home s r id lt here not_seen in (
            view_after Resume 4 m.0,
            takes id (Some home.0),
            home.1,
            own_step owner n s r id m.0 at (parked_not_holding here) Outside (outside_not_holding refl) (λ z. absurd (true_not_false (sym z ∙ not_seen))) 0 (ap (word_of Outside) (sym e)) (set s.homes id none) (slot_set s.homes id none)
                (set_here s.homes id none (below s.homes id _ home.1)) (view_after Resume 4 m.0) (record { thread = refl; given = refl }) refl refl refl,
            (
              refl,
              (λ _. (λ j. (sym mine.number j, Some ((home.2 ∙ sym mine.number) j)) ∷ labels owner (empty j))),
              (λ ne. absurd (ne refl)),
              (false, refl),
            ),
          )
      by_stop r mine here true e = (
        view_after Resume 6 m.0,
        keeps,
        tt,
        same_step owner n s r id m.0 at (suc id) 6 (r.words id (is_below owner n s r id m.0 at) ∙ ap (λ p. word_of p (is_in id r.posted_now)) here ∙ ap (word_of Parked) e) (view_after Resume 6 m.0) (record { thread = refl; given = refl }) refl refl refl,
        (refl, (λ q. let z : 6 ≡ 4 = q in absurd (omega arith)), (λ _. refl), (true, refl)),
      )

  parks_from : (slots id i : ℕ) (v : View) (q : P) (es : List (ℕ × Option P)) → i ≡ suc v.thread → v.place ≡ Outside → owner q ≡ v.thread
      → Allows (StopRule owner n) slots id (v, (v.thread, Some q) ∷ es) i (λ x. bit_or x 4) (ParkedIn owner (step slots i 4 0 none) (v, (v.thread, Some q) ∷ es))
  parks_from slots id i v q es at_i placed owned s r size at fits =
      let mine = r.views id v at in
      let here : r.places id ≡ Outside = sym mine.at ∙ placed in
      let b = is_in id r.posted_now in
      let m : Me (Option P) View = (v, (v.thread, Some q) ∷ es) in
      let lt = is_below owner n s r id v at in
      let not_seen : is_in id r.seen_now ≡ false = none_at (is_in id r.seen_now) (λ z. let k : Outside ≡ Parked = sym here ∙ (r.seen_in id z).1 in cc) in
      let size_ok : v.thread < length s.homes = let a = mine.number in let c = r.slot_count in omega arith in
      moves_to s id m (λ x. bit_or x 4) (λ k x. ParkedIn owner (step slots k 4 0 none) m x) i (suc id) (word_of Outside b)
      (at_i ∙ ap suc mine.number) (r.words id lt ∙ ap (λ p. word_of p b) here) (
        view_after Park (word_of Outside b) v,
        gives,
        tt,
        own_step owner n s r id v at (outside_not_holding here) Parked (parked_not_holding refl) (λ z. refl) (bit_or (word_of Outside b) 4) (parked b) (set s.homes v.thread (some (Some q)))
            (subst (λ k. SlotChange s.homes (set s.homes v.thread (some (Some q))) k) mine.number (slot_set s.homes v.thread (some (Some q))))
            (subst (λ t. LiesAt owner (set s.homes v.thread (some (Some q))) id (is_home Parked t)) (sym not_seen) (q, subst (λ k. get_elem? (set s.homes v.thread (some (Some q))) k ≡ some (some (Some q))) mine.number (set_here s.homes v.thread (some (Some q)) size_ok), owned ∙ mine.number))
            (view_after Park (word_of Outside b) v) (record { thread = refl; given = refl }) refl refl refl,
        (refl, refl, (b, refl)),
      )
    where
      parked : (b : Bool) → bit_or (word_of Outside b) 4 ≡ word_of Parked b
      parked true = refl
      parked false = refl

      none_at : (t : Bool) → (t ≡ true → ⊥) → t ≡ false
      none_at true never = absurd (never refl)
      none_at false never = refl

  pub parks : (slots id i : ℕ) (m : Me (Option P) View) (q : P) (es : List (ℕ × Option P)) → m.1 ≡ (m.0.thread, Some q) ∷ es → i ≡ suc m.0.thread → m.0.place ≡ Outside → owner q ≡ m.0.thread
      → Allows (StopRule owner n) slots id m i (λ x. bit_or x 4) (ParkedIn owner (step slots i 4 0 none) m)
  parks slots id i m q es is at_i placed owned =
      subst (λ h. Allows (StopRule owner n) slots id (m.0, h) i (λ x. bit_or x 4) (ParkedIn owner (step slots i 4 0 none) (m.0, h))) (sym is) (parks_from slots id i m.0 q es at_i placed owned)

  is_suc : (x : ℕ) → x ≢ 0 → (h : ℕ) × (x ≡ suc h)
  is_suc zero ne = absurd (ne refl)
  is_suc (suc h) ne = (h, refl)

  -- the holder of the turn is one of the threads
  holder_below : (s : State (Option P) View) (r : StopRule owner n s) (h : ℕ) → slice_index s.words 0 ≡ suc h → h < n
  holder_below s r h e = ⊎_elim (λ le. absurd (parked_not_holding (r.unseated h (let v = r.view_count in omega arith)) (r.turn h e))) (λ lt. lt) (le_or_lt n h)

  pub claims : (slots id new : ℕ) (m : Me (Option P) View) → new ≡ suc m.0.thread → m.0.place ≡ Outside
      → Allows (StopRule owner n) slots id m 0 (λ x. either (eqb x 0) new x) (Claimed owner (step slots 0 0 new none) m)
  claims slots id new m is_new placed s r size at fits =
      let mine = r.views id m.0 at in
      let here : r.places id ≡ Outside = sym mine.at ∙ placed in
      ⊎_elim
      (λ (e : slice_index s.words 0 ≡ 0). moves_to s id m (λ x. either (eqb x 0) new x) (λ k x. Claimed owner (step slots k 0 new none) m x) 0 0 0 refl e (
        view_after Claim 0 m.0,
        keeps,
        tt,
        subst (λ k. StopRule owner n (record { words = set s.words 0 k; homes = s.homes; views = set s.views id (view_after Claim 0 m.0) })) (sym (is_new ∙ ap suc mine.number))
            (claim_step owner n s r id m.0 at here e (view_after Claim 0 m.0) (record { thread = refl; given = refl }) refl refl refl),
        (refl, refl, omega arith, (λ z. omega arith)),
      ))
      (λ (ne : slice_index s.words 0 ≢ 0).
      let h = is_suc (slice_index s.words 0) ne in
      let h_is : slice_index s.words 0 ≡ suc h.0 = h.1 in
      let lt = holder_below s r h.0 h.1 in
      let c = r.slot_count in
      let x = slice_index s.words 0 in (
        counted m.0 0 x (becomes m.0.thread Claim x),
        keeps,
        tt,
        subst (λ k. StopRule owner n (record { words = set s.words 0 k; homes = s.homes; views = set s.views id (counted m.0 0 x (becomes m.0.thread Claim x)) })) (sym (ap (λ b. either b new x) (ne_eqb x 0 ne)))
            (same_step owner n s r id m.0 at 0 x refl (counted m.0 0 x (becomes m.0.thread Claim x)) (record { thread = refl; given = refl }) refl refl refl),
        (ap (λ k. counted k 0 x (becomes m.0.thread Claim x)) (sym (if_other x 0 (moved m.0 Holding) m.0 ne)), refl, omega arith, (λ z. outside_not_holding here (r.turn id (z ∙ ap suc mine.number)))),
      ))
      (same_or_not (slice_index s.words 0) 0)

  or_stop : (p : Place) (b : Bool) → bit_or (word_of p b) 2 ≡ word_of p true
  or_stop Parked true = refl
  or_stop Parked false = refl
  or_stop Outside true = refl
  or_stop Outside false = refl
  or_stop Inside true = refl
  or_stop Inside false = refl
  or_stop Holding true = refl
  or_stop Holding false = refl

  pub posts : (slots id i u : ℕ) (m : Me (Option P) View) → i ≡ suc u → m.0.place ≡ Holding → u < n → u ≢ m.0.thread
      → Allows (StopRule owner n) slots id m i (λ x. bit_or x 2) (Posted owner (step slots i 2 0 none) m)
  posts slots id i u m at_i placed lt apart s r size at fits =
      let mine = r.views id m.0 at in
      let here : r.places id ≡ Holding = sym mine.at ∙ placed in
      let x = word_of (r.places u) (is_in u r.posted_now) in
      moves_to s id m (λ x. bit_or x 2) (λ k x. Posted owner (step slots k 2 0 none) m x) i (suc u) x at_i (r.words u lt) (
        view_after (Post u) x m.0,
        keeps,
        tt,
        post_step owner n s r id m.0 at here u lt (λ e. apart (e ∙ sym mine.number)) (bit_or x 2) (or_stop (r.places u) (is_in u r.posted_now)) (view_after (Post u) x m.0) (record { thread = refl; given = refl }) refl refl refl,
        (λ k e. let same : u ≡ k = omega arith in subst (λ j. (view_after (Post u) x m.0 ≡ view_after (Post j) x m.0) × (m.1 ≡ m.1) × IsWord x) same (refl, refl, (r.places u, (is_in u r.posted_now, refl)))),
      )

  -- the slot u comes into a hand that the labels show
  takes_in : (homes : List (mathlib.Core.Option.Option (Option P))) (t u : ℕ) (p : P) (own : Option ℕ) (xs : List ℕ) (es : List (ℕ × Option P))
      → labels owner es ≡ (t, own) ∷ picked xs (lying false) 0 n → get_elem? homes t ≡ some none → t ≢ u → is_in t xs ≡ false → ((k : ℕ) → k < n → is_in k xs ≡ true → get_elem? homes k ≡ some none)
      → u < n → is_in u xs ≡ false → get_elem? homes u ≡ some (some (Some p)) → owner p ≡ u
      → (a : Act (Option P)) × Valid homes es a × (homes_after homes es a ≡ set homes u none) × (labels owner (carried_after es a) ≡ (t, own) ∷ picked (u ∷ xs) (lying false) 0 n)
  takes_in homes t u p own xs [] shows own_out apart not_own out lt not_u home owned = absurd (cc)
  takes_in homes t u p own xs (e ∷ es) shows own_out apart not_own out lt not_u home owned =
      let q : label owner e ∷ labels owner es ≡ (t, own) ∷ picked xs (lying false) 0 n = shows in
      let first : label owner e ≡ (t, own) = cc in
      let others : labels owner es ≡ picked xs (lying false) 0 n = cc in
      let number : e.0 ≡ t = ap (λ y. y.0) first in
      let hs1 = set homes e.0 (some e.1) in
      let e_out : get_elem? homes e.0 ≡ some none = ap (get_elem? homes) number ∙ own_out in
      let hand_out1 : Out hs1 u 0 es = picked_out owner hs1 u xs (lying false) 0 n es (λ k k_lt k_in. set_else homes e.0 k (some e.1) (λ z. true_not_false (sym k_in ∙ ap (λ j. is_in j xs) (z ∙ number) ∙ not_own)) ∙ out k (omega arith) k_in) not_u others in
      let works = around homes u e es (ins u (Some p) es) (inserted u (Some p) es) e_out (λ z. apart (sym number ∙ z))
      (ins_works hs1 u 0 (Some p) es hand_out1 (set_else homes e.0 u (some e.1) (λ z. apart (sym number ∙ sym z)) ∙ home)) in (
        chain gives (chain (ins u (Some p) es) (takes e.0 e.1)),
        works.0,
        works.1,
        ap (labels owner) works.2 ∙ (λ j. first j ∷ picked_more owner u (Some p) xs (lying false) 0 n es (omega arith) (omega arith) not_u (ap Some owned) others j),
      )

  not_seen_at : (s : State (Option P) View) (r : StopRule owner n s) (t : ℕ) → r.places t ≡ Holding → is_in t r.seen_now ≡ false
  not_seen_at s r t here = by_test (is_in t r.seen_now) refl
    where
      by_test : (b : Bool) → is_in t r.seen_now ≡ b → is_in t r.seen_now ≡ false
      by_test true e = absurd (parked_not_holding (r.seen_in t e).1 here)
      by_test false e = e

  longer : (u : ℕ) (us : List ℕ) → u ∷ us ≡ us → ⊥
  longer u us e = let h : suc (length us) ≡ length us = ap length e in omega arith

  pub looks : (slots id i u : ℕ) (m : Me (Option P) View) → i ≡ suc u → m.0.place ≡ Holding → is_in u m.0.posted ≡ true
      → (u < n → u ≢ m.0.thread → is_in u m.0.seen ≡ false → (own : Option ℕ) × (labels owner m.1 ≡ (m.0.thread, own) ∷ picked m.0.seen (lying false) 0 slots))
      → Allows (StopRule owner n) slots id m i (λ x. x) (Looked owner (step slots i 0 0 none) m)
  looks slots id i u m at_i placed posted shows s r size at fits =
      let mine = r.views id m.0 at in
      let here : r.places id ≡ Holding = sym mine.at ∙ placed in
      let posted_now : is_in u r.posted_now ≡ true = sym (ap (is_in u) (mine.posts ∙ ap (λ q. lists_at q r.posted_now) here)) ∙ posted in
      let lt = (r.posted_in u posted_now).0 in
      moves_to s id m (λ x. x) (λ k x. Looked owner (step slots k 0 0 none) m x) i (suc u) (word_of (r.places u) true) at_i (r.words u lt ∙ ap (word_of (r.places u)) posted_now) (by_place r (λ z. (r.posted_in u posted_now).1 (r.holder id here ∙ ap suc (sym (z ∙ mine.number)))) mine here posted_now lt (r.places u) refl)
    where
      tells : (x : ℕ) (n1 : Me (Option P) View) → (n1.0 ≡ view_after (Look u) x m.0) × IsWord x × (u ≢ m.0.thread) × (n1.0.seen ≡ m.0.seen → n1.1 ≡ m.1)
          × ((own : Option ℕ) → labels owner m.1 ≡ (m.0.thread, own) ∷ picked m.0.seen (lying false) 0 slots → labels owner n1.1 ≡ (m.0.thread, own) ∷ picked n1.0.seen (lying false) 0 slots)
          → Looked owner (step slots (suc u) 0 0 none) m x n1
      tells x n1 all k e = let same : u ≡ k = omega arith in subst (λ j. (n1.0 ≡ view_after (Look j) x m.0) × IsWord x × (j ≢ m.0.thread) × (n1.0.seen ≡ m.0.seen → n1.1 ≡ m.1)
          × ((own : Option ℕ) → labels owner m.1 ≡ (m.0.thread, own) ∷ picked m.0.seen (lying false) 0 slots → labels owner n1.1 ≡ (m.0.thread, own) ∷ picked n1.0.seen (lying false) 0 slots)) same all

      stays : (r : StopRule owner n s) → u ≢ m.0.thread → is_in u r.posted_now ≡ true → u < n → (q : Place) → r.places u ≡ q → (w : View) → w ≡ view_after (Look u) (word_of q true) m.0 → w.seen ≡ m.0.seen
          → Keeps m.0 w → w.place ≡ m.0.place → w.posted ≡ m.0.posted
          → Owes s id m (λ x. x) (λ k x. Looked owner (step slots k 0 0 none) m x) (suc u) (word_of q true)
      stays r not_own posted_now lt q is w gives_w same keeps_it place_same posted_same = (
        w,
        keeps,
        tt,
        same_step owner n s r id m.0 at (suc u) (word_of q true) (r.words u lt ∙ ap (word_of (r.places u)) posted_now ∙ ap (λ p. word_of p true) is) w keeps_it place_same posted_same same,
        tells (word_of q true) (w, m.1) (gives_w, (q, (true, refl)), not_own, (λ _. refl), (λ own h. h ∙ ap (λ l. (m.0.thread, own) ∷ picked l (lying false) 0 slots) (sym same))),
      )

      takes_it : (r : StopRule owner n s) → u ≢ m.0.thread → FitsView r.places r.posted_now r.seen_now (length s.views) id m.0 → r.places id ≡ Holding → is_in u r.posted_now ≡ true → u < n → r.places u ≡ Parked
          → (own : Option ℕ) → labels owner m.1 ≡ (m.0.thread, own) ∷ picked m.0.seen (lying false) 0 slots → is_in u m.0.seen ≡ false
          → Owes s id m (λ x. x) (λ k x. Looked owner (step slots k 0 0 none) m x) (suc u) 6
      takes_it r not_own mine here posted_now lt is own hand not_seen =
          let now : m.0.seen ≡ r.seen_now = mine.sees ∙ ap (λ q. lists_at q r.seen_now) here in
          let count : slots ≡ n = sym size ∙ r.slot_count in
          let home = at_home s r u lt is (sym (ap (is_in u) now) ∙ not_seen) in
          let own_out : get_elem? s.homes m.0.thread ≡ some none = ap (get_elem? s.homes) mine.number ∙ subst (λ p. LiesAt owner s.homes id (is_home p (is_in id r.seen_now))) here (r.slots id (is_below owner n s r id m.0 at)) in
          let hand_n : labels owner m.1 ≡ (m.0.thread, own) ∷ picked m.0.seen (lying false) 0 n = hand ∙ ap (λ k. (m.0.thread, own) ∷ picked m.0.seen (lying false) 0 k) count in
          let got = takes_in s.homes m.0.thread u home.0 own m.0.seen m.1 hand_n own_out
          (λ z. parked_not_holding is (ap r.places (sym z ∙ mine.number) ∙ here))
          (ap (is_in m.0.thread) now ∙ ap (λ k. is_in k r.seen_now) mine.number ∙ not_seen_at s r id here)
          (λ k k_lt k_in. let seen_k = sym (ap (is_in k) now) ∙ k_in in subst (λ t. LiesAt owner s.homes k t) (ap (λ p. is_home p (is_in k r.seen_now)) (r.seen_in k seen_k).1 ∙ ap (is_home Parked) seen_k) (r.slots k k_lt))
          lt not_seen home.1 home.2 in
          let w = view_after (Look u) 6 m.0 in
          let sees : w.seen ≡ u ∷ m.0.seen = ap (λ b. (seeing b u m.0).seen) not_seen in (
            w,
            got.0,
            got.1,
            subst (λ h. StopRule owner n (record { words = set s.words (suc u) 6; homes = h; views = set s.views id w })) (sym got.2)
                (look_step owner n s r id m.0 at here u posted_now is (suc u) 6 (r.words u lt ∙ ap (word_of (r.places u)) posted_now ∙ ap (λ p. word_of p true) is) (set s.homes u none) (slot_set s.homes u none)
                (set_here s.homes u none (below s.homes u _ home.1)) w (record { thread = ap (λ b. (seeing b u m.0).thread) not_seen; given = ap (λ b. (seeing b u m.0).given) not_seen }) (ap (λ b. (seeing b u m.0).place) not_seen) (ap (λ b. (seeing b u m.0).posted) not_seen) sees),
            tells 6 (w, carried_after m.1 got.0) (
              refl,
              (Parked, (true, refl)),
              not_own,
              (λ z. absurd (longer u m.0.seen (sym sees ∙ z))),
              (λ own1 h1.
                  let both : (m.0.thread, own) ∷ picked m.0.seen (lying false) 0 slots ≡ (m.0.thread, own1) ∷ picked m.0.seen (lying false) 0 slots = sym hand ∙ h1 in
                  let pair : ◌≡◌ {A = ℕ × Option ℕ} (m.0.thread, own) (m.0.thread, own1) = cc in
                  let same : own ≡ own1 = ap (λ y. y.1) pair in
                  got.3 ∙ (λ j. (m.0.thread, same j) ∷ picked (sym sees j) (lying false) 0 (sym count j))),
            ),
          )

      by_seen : (r : StopRule owner n s) → u ≢ m.0.thread → FitsView r.places r.posted_now r.seen_now (length s.views) id m.0 → r.places id ≡ Holding → is_in u r.posted_now ≡ true → u < n → r.places u ≡ Parked → (b : Bool) → is_in u m.0.seen ≡ b
          → Owes s id m (λ x. x) (λ k x. Looked owner (step slots k 0 0 none) m x) (suc u) 6
      by_seen r not_own mine here posted_now lt is true e =
          stays r not_own posted_now lt Parked is (view_after (Look u) 6 m.0) refl (ap (λ b. (seeing b u m.0).seen) e)
          (record { thread = ap (λ b. (seeing b u m.0).thread) e; given = ap (λ b. (seeing b u m.0).given) e }) (ap (λ b. (seeing b u m.0).place) e) (ap (λ b. (seeing b u m.0).posted) e)
      by_seen r not_own mine here posted_now lt is false e = let hand = shows lt not_own e in takes_it r not_own mine here posted_now lt is hand.0 hand.1 e

      by_place : (r : StopRule owner n s) → u ≢ m.0.thread → FitsView r.places r.posted_now r.seen_now (length s.views) id m.0 → r.places id ≡ Holding → is_in u r.posted_now ≡ true → u < n → (q : Place) → r.places u ≡ q
          → Owes s id m (λ x. x) (λ k x. Looked owner (step slots k 0 0 none) m x) (suc u) (word_of q true)
      by_place r not_own mine here posted_now lt Parked is = by_seen r not_own mine here posted_now lt is (is_in u m.0.seen) refl
      by_place r not_own mine here posted_now lt Outside is = stays r not_own posted_now lt Outside is (view_after (Look u) 2 m.0) refl refl (record { thread = refl; given = refl }) refl refl
      by_place r not_own mine here posted_now lt Inside is = stays r not_own posted_now lt Inside is (view_after (Look u) 3 m.0) refl refl (record { thread = refl; given = refl }) refl refl
      by_place r not_own mine here posted_now lt Holding is = stays r not_own posted_now lt Holding is (view_after (Look u) 2 m.0) refl refl (record { thread = refl; given = refl }) refl refl

  releases_from : (slots id i u : ℕ) (v : View) (q : P) (es : List (ℕ × Option P)) → i ≡ suc u → v.place ≡ Holding → is_in u v.seen ≡ true → owner q ≡ u
      → Allows (StopRule owner n) slots id (v, (u, Some q) ∷ es) i (λ x. bit_and x 18446744073709551613) (Released owner (step slots i 18446744073709551613 0 none) (v, (u, Some q) ∷ es))
  releases_from slots id i u v q es at_i placed seen owned s r size at fits =
      let mine = r.views id v at in
      let here : r.places id ≡ Holding = sym mine.at ∙ placed in
      let m : Me (Option P) View = (v, (u, Some q) ∷ es) in
      let seen_now : is_in u r.seen_now ≡ true = sym (ap (is_in u) (mine.sees ∙ ap (λ p. lists_at p r.seen_now) here)) ∙ seen in
      let its = r.seen_in u seen_now in
      let lt = (r.posted_in u its.0).0 in
      let c = r.slot_count in
      moves_to s id m (λ x. bit_and x 18446744073709551613) (λ k x. Released owner (step slots k 18446744073709551613 0 none) m x) i (suc u) 6 at_i (r.words u lt ∙ ap (word_of (r.places u)) its.0 ∙ ap (λ p. word_of p true) its.1) (
        view_after (Release u) 6 v,
        gives,
        tt,
        release_step owner n s r id v at here u seen_now 4 refl (set s.homes u (some (Some q))) (slot_set s.homes u (some (Some q))) (q, set_here s.homes u (some (Some q)) (omega arith), owned)
            (view_after (Release u) 6 v) (record { thread = refl; given = refl }) refl refl refl,
        (λ k e. let same : u ≡ k = omega arith in subst (λ j. (view_after (Release u) 6 v ≡ view_after (Release j) 6 v) × (es ≡ es) × (◌≡◌ {A = ℕ} 6 6)) same (refl, refl, refl)),
      )

  pub releases : (slots id i u : ℕ) (m : Me (Option P) View) (q : P) (es : List (ℕ × Option P)) → m.1 ≡ (u, Some q) ∷ es → i ≡ suc u → m.0.place ≡ Holding → is_in u m.0.seen ≡ true → owner q ≡ u
      → Allows (StopRule owner n) slots id m i (λ x. bit_and x 18446744073709551613) (Released owner (step slots i 18446744073709551613 0 none) m)
  releases slots id i u m q es is at_i placed seen owned =
      subst (λ h. Allows (StopRule owner n) slots id (m.0, h) i (λ x. bit_and x 18446744073709551613) (Released owner (step slots i 18446744073709551613 0 none) (m.0, h))) (sym is) (releases_from slots id i u m.0 q es at_i placed seen owned)

  pub returns : (slots id : ℕ) (m : Me (Option P) View) → m.0.place ≡ Holding → ((u : ℕ) → u < n → u ≢ m.0.thread → is_in u m.0.posted ≡ false)
      → Allows (StopRule owner n) slots id m 0 (λ _. 0) (Returned owner (step slots 0 0 0 none) m)
  returns slots id m placed clear s r size at fits =
      let mine = r.views id m.0 at in
      let here : r.places id ≡ Holding = sym mine.at ∙ placed in
      let now : m.0.posted ≡ r.posted_now = mine.posts ∙ ap (λ q. lists_at q r.posted_now) here in
      let turn = r.holder id here in
      moves_to s id m (λ _. 0) (λ k x. Returned owner (step slots k 0 0 none) m x) 0 0 (suc id) refl turn (
        view_after Return (suc id) m.0,
        keeps,
        tt,
        return_step owner n s r id m.0 at here
            (λ u e. let h = r.posted_in u e in let other : u ≢ m.0.thread = λ z. h.1 (turn ∙ ap suc (sym (z ∙ mine.number))) in true_not_false (sym e ∙ sym (ap (is_in u) now) ∙ clear u h.0 other))
            (view_after Return (suc id) m.0) (record { thread = refl; given = refl }) refl refl refl,
        (refl, refl, ap suc (sym mine.number)),
      )
