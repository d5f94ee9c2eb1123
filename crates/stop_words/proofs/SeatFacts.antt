-- What a seat knows and holds, before and after each step.
use Rattle.std.proofs.Common.{◌≡◌, ◌≢◌, ◌<◌, ℕ, zero, suc, Bool, true, false, List, [], ◌∷◌, Option, None, Some, option_map, refl, sym, ap, ◌∙◌, subst, ⊎_elim, arith}
use Rattle.std.specs.Prelude.{if◌then◌else◌, IsSome}
use Rattle.atomic_table.specs.Seated.{TableId}
use Rattle.atomic_table.specs.Table.{Me, step, rest}
use mathlib.Core.Option.{none}
use Rattle.heap_terms.specs.declared.steps.WordStep.TheVariants.{Resume, Enter, Leave, Park, Claim, Post, Look}
use Rattle.heap_terms.specs.WordMachine.{has, becomes}
use Rattle.stop_words.specs.declared.view.Place.TheVariants.{Parked, Outside, Inside, Holding}
use Rattle.stop_words.specs.declared.view.View.{View}
use Rattle.stop_words.specs.Places.{is_in, lists_at}
use Rattle.stop_words.specs.Views.{view_after, seeing, moved, counted, SeenAll}
use Rattle.stop_words.specs.Hands.{label, labels, picked, lying, hand_at}
use Rattle.stop_words.specs.Plays.{Looked}
use Rattle.stop_words.proofs.Basics.{in_else, if_same, if_other, same_or_not, true_not_false}

-- the word of a thread is one of the words
pub word_below : (z w : TableId) (thread i : ℕ) {threads : ℕ} → z ≡ w → thread < z.slots → w.words ≡ suc threads → w.slots ≡ threads → i ≡ suc thread → i < w.words
word_below z w thread i same lt words slots is = let e = ap (λ (k : TableId). k.slots) same in omega arith

pub picked_nil : (f : ℕ → Option ℕ) (a m : ℕ) → picked [] f a m ≡ []
picked_nil f a zero = refl
picked_nil f a (suc m) = picked_nil f (suc a) m

outside_holding : Outside ≡ Holding → ⊥
outside_holding e = cc

-- what the seat of a thread keeps
pub record Facts {P : Type 0} (owner : P → ℕ) (thread_no : ℕ) (is_out : Bool) (slots : ℕ) (m : Me (Option P) View) : Type 0 where
  pub number : m.0.thread ≡ thread_no
  pub in_range : thread_no < slots
  pub idle : (m.0.posted ≡ lists_at m.0.place m.0.posted) × (m.0.seen ≡ lists_at m.0.place m.0.seen)
  pub alone : is_in m.0.thread m.0.seen ≡ false
  pub hand : labels owner m.1 ≡ hand_at m.0.place m.0.thread m.0.seen is_out slots
  pub gathered : is_out ≡ true → (m.0.place ≡ Holding) × SeenAll m.0 slots

module _ {P : Type 0} (owner : P → ℕ) where
  -- the first slot of a hand that the labels show
  pub head_of : (t : ℕ) (o : Option ℕ) (more : List (ℕ × Option ℕ)) (hand : List (ℕ × Option P)) → labels owner hand ≡ (t, o) ∷ more
      → (x : Option P) × (hand ≡ (t, x) ∷ rest hand) × (option_map owner x ≡ o) × (labels owner (rest hand) ≡ more)
  head_of t o more [] e = absurd (cc)
  head_of t o more (y ∷ ys) e =
      let q : label owner y ∷ labels owner ys ≡ (t, o) ∷ more = e in
      let first : label owner y ≡ (t, o) = cc in
      let others : labels owner ys ≡ more = cc in
      let number : y.0 ≡ t = ap (λ k. k.0) first in
      (y.1, (λ i. (number i, y.1) ∷ ys), ap (λ k. k.1) first, others)

  -- a hand without labels is empty
  pub no_hand : (hand : List (ℕ × Option P)) → labels owner hand ≡ [] → hand ≡ []
  no_hand [] e = refl
  no_hand (y ∷ ys) e = absurd (cc)

  -- what lies in the slot that was read
  pub read_label : (t : ℕ) (o : Option ℕ) (more : List (ℕ × Option ℕ)) (hand : List (ℕ × Option P)) (x : Option P) → labels owner hand ≡ (t, o) ∷ more → hand ≡ (t, x) ∷ rest hand → option_map owner x ≡ o
  read_label t o more hand x shows is =
      let both : label owner (t, x) ∷ labels owner (rest hand) ≡ (t, o) ∷ more = sym (ap (labels owner) is) ∙ shows in
      let first : label owner (t, x) ≡ (t, o) = cc in
      ap (λ k. k.1) first

  pub is_none : (x : Option P) → option_map owner x ≡ None → x ≡ None
  is_none None e = refl
  is_none (Some p) e = absurd (cc)

  pub is_parcel : (x : Option P) (t : ℕ) → option_map owner x ≡ Some t → (p : P) × (x ≡ Some p) × (owner p ≡ t)
  is_parcel None t e = absurd (cc)
  is_parcel (Some p) t e = let q : owner p ≡ t = cc in (p, refl, q)

  module _ (thread_no : ℕ) (is_out : Bool) (slots now : ℕ) (same : now ≡ slots) (m n : Me (Option P) View) (f : Facts owner thread_no is_out slots m) where
    pub never_out : m.0.place ≡ Outside → is_out ≡ true → ⊥
    never_out placed e = outside_holding (sym placed ∙ (f.gathered e).0)

    outside_hand : m.0.place ≡ Outside → labels owner m.1 ≡ (m.0.thread, None) ∷ []
    outside_hand placed = f.hand ∙ ap (λ p. hand_at p m.0.thread m.0.seen is_out slots) placed

    nothing_seen : m.0.place ≡ Outside → m.0.seen ≡ []
    nothing_seen placed = f.idle.1 ∙ ap (λ p. lists_at p m.0.seen) placed

    pub after_claim : (r : ℕ) → m.0.place ≡ Outside → n.0 ≡ view_after Claim r m.0 → n.1 ≡ m.1 → Facts owner thread_no is_out now n
    after_claim r placed view hand = ⊎_elim
        (λ (e : r ≡ 0).
        let v = m.0 in
        let w = counted (moved v Holding) 0 r (becomes v.thread Claim r) in
        let is : n.0 ≡ w = view ∙ ap (λ k. counted k 0 r (becomes v.thread Claim r)) (if_same r 0 (moved v Holding) v e) in
        subst (λ k. Facts owner thread_no is_out now (k, n.1)) (sym is) (record {
          number = f.number;
          in_range = let l = f.in_range in omega arith;
          idle = (refl, refl);
          alone = f.alone;
          hand = ap (labels owner) hand ∙ outside_hand placed ∙ ap (λ l. (v.thread, None) ∷ l) (sym (ap (λ xs. picked xs (lying is_out) 0 now) (nothing_seen placed) ∙ picked_nil (lying is_out) 0 now));
          gathered = λ z. absurd (never_out placed z);
        }))
        (λ (ne : r ≢ 0).
        let v = m.0 in
        let is : n.0 ≡ counted v 0 r (becomes v.thread Claim r) = view ∙ ap (λ k. counted k 0 r (becomes v.thread Claim r)) (if_other r 0 (moved v Holding) v ne) in
        subst (λ k. Facts owner thread_no is_out now (k, n.1)) (sym is) (record {
          number = f.number;
          in_range = let l = f.in_range in omega arith;
          idle = f.idle;
          alone = f.alone;
          hand = ap (labels owner) hand ∙ f.hand ∙ ap (hand_at v.place v.thread v.seen is_out) (sym same);
          gathered = λ z. absurd (never_out placed z);
        }))
        (same_or_not r 0)

    pub after_leave : (r : ℕ) → m.0.place ≡ Inside → n.0 ≡ view_after Leave r m.0 → n.1 ≡ m.1 → Facts owner thread_no is_out now n
    after_leave r placed view hand = subst (λ k. Facts owner thread_no is_out now (k, n.1)) (sym view) (record {
      number = f.number;
      in_range = let l = f.in_range in omega arith;
      idle = (f.idle.0 ∙ ap (λ p. lists_at p m.0.posted) placed, f.idle.1 ∙ ap (λ p. lists_at p m.0.seen) placed);
      alone = f.alone;
      hand = ap (labels owner) hand ∙ f.hand ∙ ap (λ p. hand_at p m.0.thread m.0.seen is_out slots) placed;
      gathered = λ z. let q : Inside ≡ Holding = sym placed ∙ (f.gathered z).0 in absurd (cc);
    })

    pub after_enter : (r : ℕ) → m.0.place ≡ Outside → n.0 ≡ view_after Enter r m.0 → n.1 ≡ m.1 → Facts owner thread_no is_out now n
    after_enter r placed view hand = ⊎_elim
        (λ (e : r ≡ 0).
        let is : n.0 ≡ counted (moved m.0 Inside) (suc m.0.thread) r (becomes m.0.thread Enter r) = view ∙ ap (λ k. counted k (suc m.0.thread) r (becomes m.0.thread Enter r)) (if_same r 0 (moved m.0 Inside) m.0 e) in
        subst (λ k. Facts owner thread_no is_out now (k, n.1)) (sym is) (record {
          number = f.number;
          in_range = let l = f.in_range in omega arith;
          idle = (f.idle.0 ∙ ap (λ p. lists_at p m.0.posted) placed, f.idle.1 ∙ ap (λ p. lists_at p m.0.seen) placed);
          alone = f.alone;
          hand = ap (labels owner) hand ∙ outside_hand placed;
          gathered = λ z. absurd (never_out placed z);
        }))
        (λ (ne : r ≢ 0).
        let is : n.0 ≡ counted m.0 (suc m.0.thread) r (becomes m.0.thread Enter r) = view ∙ ap (λ k. counted k (suc m.0.thread) r (becomes m.0.thread Enter r)) (if_other r 0 (moved m.0 Inside) m.0 ne) in
        subst (λ k. Facts owner thread_no is_out now (k, n.1)) (sym is) (record {
          number = f.number;
          in_range = let l = f.in_range in omega arith;
          idle = f.idle;
          alone = f.alone;
          hand = ap (labels owner) hand ∙ f.hand ∙ ap (hand_at m.0.place m.0.thread m.0.seen is_out) (sym same);
          gathered = λ z. absurd (never_out placed z);
        }))
        (same_or_not r 0)

    pub after_post : (r u : ℕ) → m.0.place ≡ Holding → n.0 ≡ view_after (Post u) r m.0 → n.1 ≡ m.1 → Facts owner thread_no is_out now n
    after_post r u placed view hand = subst (λ k. Facts owner thread_no is_out now (k, n.1)) (sym view) (record {
      number = f.number;
      in_range = let l = f.in_range in omega arith;
      idle = (sym (ap (λ p. lists_at p (u ∷ m.0.posted)) placed), f.idle.1);
      alone = f.alone;
      hand = ap (labels owner) hand ∙ f.hand ∙ ap (hand_at m.0.place m.0.thread m.0.seen is_out) (sym same);
      gathered = λ z. let g = f.gathered z in (g.0, λ k lt. g.1 k (omega arith));
    })

    looked : (b c : Bool) (u r : ℕ) → (n.0 ≡ counted (if b then seeing c u m.0 else m.0) (suc u) r r) → (n.0.thread ≡ m.0.thread) × (n.0.place ≡ m.0.place) × (n.0.posted ≡ m.0.posted)
    looked true true u r e = (ap (λ (v : View). v.thread) e, ap (λ (v : View). v.place) e, ap (λ (v : View). v.posted) e)
    looked true false u r e = (ap (λ (v : View). v.thread) e, ap (λ (v : View). v.place) e, ap (λ (v : View). v.posted) e)
    looked false c u r e = (ap (λ (v : View). v.thread) e, ap (λ (v : View). v.place) e, ap (λ (v : View). v.posted) e)

    seen_again : (b : Bool) (u r : ℕ) → is_in u m.0.seen ≡ true → n.0 ≡ counted (if b then seeing (is_in u m.0.seen) u m.0 else m.0) (suc u) r r → n.0.seen ≡ m.0.seen
    seen_again true u r t e = ap (λ (v : View). v.seen) e ∙ ap (λ c. (seeing c u m.0).seen) t
    seen_again false u r t e = ap (λ (v : View). v.seen) e

    alone_after : (b c : Bool) (u r : ℕ) → n.0 ≡ counted (if b then seeing c u m.0 else m.0) (suc u) r r → u ≢ m.0.thread → is_in n.0.thread n.0.seen ≡ false
    alone_after true true u r e apart = ap (λ (v : View). is_in v.thread v.seen) e ∙ f.alone
    alone_after true false u r e apart = ap (λ (v : View). is_in v.thread v.seen) e ∙ in_else m.0.thread u m.0.seen (λ z. apart (sym z)) ∙ f.alone
    alone_after false c u r e apart = ap (λ (v : View). is_in v.thread v.seen) e ∙ f.alone

    pub after_look : (i u r : ℕ) → i ≡ suc u → u < slots → m.0.place ≡ Holding → Looked owner (step slots i 0 0 none) m r n → Facts owner thread_no is_out now n
    after_look i u r at_i lt placed play =
        let told = play u at_i in
        let kept = looked (has 4 r) (is_in u m.0.seen) u r told.0 in
        let place_now : n.0.place ≡ Holding = kept.1 ∙ placed in
        by_out is_out refl told.0 told.2 told.3 told.4 kept.0 place_now kept.1 kept.2 (alone_after (has 4 r) (is_in u m.0.seen) u r told.0 told.2)
      where
        by_out : (b : Bool) → is_out ≡ b → n.0 ≡ view_after (Look u) r m.0 → u ≢ m.0.thread → (n.0.seen ≡ m.0.seen → n.1 ≡ m.1)
            → ((own : Option ℕ) → labels owner m.1 ≡ (m.0.thread, own) ∷ picked m.0.seen (lying false) 0 slots → labels owner n.1 ≡ (m.0.thread, own) ∷ picked n.0.seen (lying false) 0 slots)
            → n.0.thread ≡ m.0.thread → n.0.place ≡ Holding → n.0.place ≡ m.0.place → n.0.posted ≡ m.0.posted → is_in n.0.thread n.0.seen ≡ false → Facts owner thread_no is_out now n
        by_out false e view not_own stays moves thread_same placed_now place_same posted_same alone_now = record {
          number = thread_same ∙ f.number;
          in_range = let l = f.in_range in omega arith;
          idle = (sym (ap (λ p. lists_at p n.0.posted) placed_now), sym (ap (λ p. lists_at p n.0.seen) placed_now));
          alone = alone_now;
          hand = moves None (f.hand ∙ (λ j. hand_at (placed j) m.0.thread m.0.seen (e j) slots)) ∙ sym (λ j. hand_at (placed_now j) (thread_same j) n.0.seen (e j) (same j));
          gathered = λ z. absurd (true_not_false (sym z ∙ e));
        }
        by_out true e view not_own stays moves thread_same placed_now place_same posted_same alone_now =
            let g = f.gathered e in
            let seen_same = seen_again (has 4 r) u r (g.1 u lt not_own) view in record {
              number = thread_same ∙ f.number;
              in_range = let l = f.in_range in omega arith;
              idle = (sym (ap (λ p. lists_at p n.0.posted) placed_now), sym (ap (λ p. lists_at p n.0.seen) placed_now));
              alone = alone_now;
              hand = ap (labels owner) (stays seen_same) ∙ f.hand ∙ sym (λ j. hand_at (place_same j) (thread_same j) (seen_same j) is_out (same j));
              gathered = λ z. (placed_now, λ k k_lt apart. ap (is_in k) seen_same ∙ g.1 k (omega arith) (λ q. apart (q ∙ sym thread_same)));
            }

    pub after_resume : (r : ℕ) → m.0.place ≡ Parked → n.0 ≡ view_after Resume r m.0 → (r ≡ 4 → labels owner n.1 ≡ (m.0.thread, None) ∷ []) → (r ≢ 4 → n.1 ≡ []) → Facts owner thread_no is_out now n
    after_resume r placed view went stays = ⊎_elim
        (λ (e : r ≡ 4).
        let is : n.0 ≡ counted (moved m.0 Outside) (suc m.0.thread) r (becomes m.0.thread Resume r) = view ∙ ap (λ k. counted k (suc m.0.thread) r (becomes m.0.thread Resume r)) (if_same r 4 (moved m.0 Outside) m.0 e) in
        subst (λ k. Facts owner thread_no is_out now (k, n.1)) (sym is) (record {
          number = f.number;
          in_range = let l = f.in_range in omega arith;
          idle = (f.idle.0 ∙ ap (λ p. lists_at p m.0.posted) placed, f.idle.1 ∙ ap (λ p. lists_at p m.0.seen) placed);
          alone = f.alone;
          hand = went e;
          gathered = λ z. let q : Parked ≡ Holding = sym placed ∙ (f.gathered z).0 in absurd (cc);
        }))
        (λ (ne : r ≢ 4).
        let is : n.0 ≡ counted m.0 (suc m.0.thread) r (becomes m.0.thread Resume r) = view ∙ ap (λ k. counted k (suc m.0.thread) r (becomes m.0.thread Resume r)) (if_other r 4 (moved m.0 Outside) m.0 ne) in
        subst (λ k. Facts owner thread_no is_out now (k, n.1)) (sym is) (record {
          number = f.number;
          in_range = let l = f.in_range in omega arith;
          idle = f.idle;
          alone = f.alone;
          hand = ap (labels owner) (stays ne) ∙ sym (ap (λ p. hand_at p m.0.thread m.0.seen is_out now) placed);
          gathered = λ z. let q : Parked ≡ Holding = sym placed ∙ (f.gathered z).0 in absurd (cc);
        }))
        (same_or_not r 4)

    pub after_park : (r : ℕ) → m.0.place ≡ Outside → n.0 ≡ view_after Park r m.0 → n.1 ≡ [] → Facts owner thread_no is_out now n
    after_park r placed view hand = subst (λ k. Facts owner thread_no is_out now (k, n.1)) (sym view) (record {
      number = f.number;
      in_range = let l = f.in_range in omega arith;
      idle = (f.idle.0 ∙ ap (λ p. lists_at p m.0.posted) placed, f.idle.1 ∙ ap (λ p. lists_at p m.0.seen) placed);
      alone = f.alone;
      hand = ap (labels owner) hand;
      gathered = λ z. absurd (never_out placed z);
    })

  pub hand_before_look : (thread_no : ℕ) (is_out : Bool) (slots now key : ℕ) → now ≡ slots → key ≡ now → (m : Me (Option P) View) → Facts owner thread_no is_out slots m → (u : ℕ) → m.0.place ≡ Holding
      → u < key → u ≢ m.0.thread → is_in u m.0.seen ≡ false → (own : Option ℕ) × (labels owner m.1 ≡ (m.0.thread, own) ∷ picked m.0.seen (lying false) 0 now)
  hand_before_look thread_no is_out slots now key same is_key m f u placed lt apart not_seen = by_out is_out refl
    where
      by_out : (b : Bool) → is_out ≡ b → (own : Option ℕ) × (labels owner m.1 ≡ (m.0.thread, own) ∷ picked m.0.seen (lying false) 0 now)
      by_out true e = absurd (true_not_false (sym ((f.gathered e).1 u (omega arith) apart) ∙ not_seen))
      by_out false e = (None, f.hand ∙ (λ j. hand_at (placed j) m.0.thread m.0.seen (e j) (sym same j)))

  pub some_there : (x : Option P) (t : ℕ) → option_map owner x ≡ Some t → IsSome x
  some_there None t e = absurd (cc)
  some_there (Some p) t e = refl

  pub owner_is : (x : Option P) (p : P) (t : ℕ) → option_map owner x ≡ Some t → x ≡ Some p → owner p ≡ t
  owner_is x p t e is = let q : Some (owner p) ≡ Some t = sym (ap (option_map owner) is) ∙ e in cc
