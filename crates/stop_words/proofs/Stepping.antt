-- The views tell the words: where the rule holds before and after a change of one view, the words have changed as the
-- word machine says.
use Rattle.std.proofs.Common.{◌≡◌, ◌≢◌, ◌⊎◌, ◌<◌, ◌≤◌, ℕ, zero, suc, Bool, true, false, List, [], ◌∷◌, Option, length, set, get_or, refl, sym, ap, ◌∙◌, subst, inl, inr, ⊎_elim, length-set, get_or-set_same, get_or-set_other, arith}
use Rattle.std.proofs.lemmas.List.{ext_get_or}
use Rattle.std.specs.Prelude.{if◌then◌else◌}
use mathlib.Core.Option.{some}
use lib.ListN.{get_elem?}
use Rattle.atomic_table.specs.Table.{State}
use Rattle.atomic_table.proofs.Lists.{set_here, set_else}
use Rattle.heap_terms.specs.declared.steps.WordStep.{WordStep}
use Rattle.heap_terms.specs.declared.steps.WordStep.TheVariants.{Resume, Enter, Leave, Park, Claim, Post, Look, Release, Return}
use Rattle.heap_terms.specs.WordMachine.{has, becomes, place_of, words_after, MayStep}
use Rattle.stop_words.specs.declared.view.Place.{Place}
use Rattle.stop_words.specs.declared.view.Place.TheVariants.{Parked, Outside, Inside, Holding}
use Rattle.stop_words.specs.declared.view.View.{View}
use Rattle.stop_words.specs.Places.{word_of, is_in, lists_at}
use Rattle.stop_words.specs.Views.{view_after, seeing, moved}
use Rattle.stop_words.specs.Rule.{StopRule}
use Rattle.stop_words.specs.Laws.{MayDo}
use Rattle.stop_words.proofs.Basics.{same_or_not, below, if_other, in_here, in_else, not_in_without, in_without}
use Rattle.stop_words.proofs.Rules.{is_below}
use Rattle.stop_words.proofs.Machine.{resume_becomes, enter_becomes, leave_becomes, park_becomes, post_becomes, release_becomes, claim_becomes, taken_becomes}

at_or_past : {A : Type 0} (l : List A) (i : ℕ) → ((a : A) × (get_elem? l i ≡ some a)) ⊎ (length l ≤ i)
at_or_past [] i = inr (omega arith)
at_or_past (x ∷ xs) zero = inl (x, refl)
at_or_past (x ∷ xs) (suc i) = ⊎_elim (λ h. inl h) (λ h. inr (omega arith)) (at_or_past xs i)

none_or_suc : (x : ℕ) → (x ≡ 0) ⊎ ((h : ℕ) × (x ≡ suc h))
none_or_suc zero = inl refl
none_or_suc (suc h) = inr (h, refl)

-- a list of numbers that has changed at one index
set_at : (xs ys : List ℕ) (m i y : ℕ) → length xs ≡ m → length ys ≡ m → i < m → get_or ys i 0 ≡ y → ((j : ℕ) → j < m → j ≢ i → get_or ys j 0 ≡ get_or xs j 0) → ys ≡ set xs i y
set_at xs ys m i y xs_len ys_len lt here others = ext_get_or 0 ys (set xs i y) (ys_len ∙ sym (length-set xs i y ∙ xs_len)) (λ j j_lt. ⊎_elim
    (λ (same : j ≡ i). ap (λ k. get_or ys k 0) same ∙ here ∙ sym (ap (λ k. get_or (set xs i y) k 0) same ∙ get_or-set_same xs i y 0 (omega arith)))
    (λ (ne : j ≢ i). others j (omega arith) ne ∙ sym (get_or-set_other xs i j y 0 ne))
    (same_or_not j i))

-- the place after each step that may move the thread
resumed : (v : View) (x : ℕ) (b : Bool) → x ≡ word_of Parked b → v.place ≡ Parked → (view_after Resume x v).place ≡ (if b then Parked else Outside)
resumed v x true e placed = ap (λ k. (view_after Resume k v).place) e ∙ placed
resumed v x false e placed = ap (λ k. (view_after Resume k v).place) e

entered : (v : View) (x : ℕ) (b : Bool) → x ≡ word_of Outside b → v.place ≡ Outside → (view_after Enter x v).place ≡ (if b then Outside else Inside)
entered v x true e placed = ap (λ k. (view_after Enter k v).place) e ∙ placed
entered v x false e placed = ap (λ k. (view_after Enter k v).place) e

looked_place : (v : View) (u : ℕ) (b c : Bool) → (if b then seeing c u v else v).place ≡ v.place
looked_place v u true true = refl
looked_place v u true false = refl
looked_place v u false c = refl

looked_posted : (v : View) (u : ℕ) (b c : Bool) → (if b then seeing c u v else v).posted ≡ v.posted
looked_posted v u true true = refl
looked_posted v u true false = refl
looked_posted v u false c = refl

not_holding : (p : Place) → p ≡ Parked → p ≢ Holding
not_holding p e h = let q : Parked ≡ Holding = sym e ∙ h in cc

outside_not : (p : Place) → p ≡ Outside → p ≢ Holding
outside_not p e h = let q : Outside ≡ Holding = sym e ∙ h in cc

inside_not : (p : Place) → p ≡ Inside → p ≢ Holding
inside_not p e h = let q : Inside ≡ Holding = sym e ∙ h in cc

resumed_not : (b : Bool) → (if b then Parked else Outside) ≢ Holding
resumed_not true h = not_holding Parked refl h
resumed_not false h = outside_not Outside refl h

entered_not : (b : Bool) → (if b then Outside else Inside) ≢ Holding
entered_not true h = outside_not Outside refl h
entered_not false h = inside_not Inside refl h

module _ {P : Type 0} (owner : P → ℕ) (n : ℕ) (s new : State (Option P) View) (r : StopRule owner n s) (q : StopRule owner n new) (id : ℕ) (v w : View) (at : get_elem? s.views id ≡ some v) (is : new.views ≡ set s.views id w) where
  mine : q.places id ≡ w.place
  mine = sym (q.views id w (ap (λ l. get_elem? l id) is ∙ set_here s.views id w (below s.views id v at))).at

  my_posts : w.posted ≡ lists_at (q.places id) q.posted_now
  my_posts = (q.views id w (ap (λ l. get_elem? l id) is ∙ set_here s.views id w (below s.views id v at))).posts

  still_there : (j : ℕ) (u : View) → j ≢ id → get_elem? s.views j ≡ some u → get_elem? new.views j ≡ some u
  still_there j u ne e = ap (λ l. get_elem? l j) is ∙ set_else s.views id j w ne ∙ e

  other : (t : ℕ) → t ≢ id → q.places t ≡ r.places t
  other t ne = ⊎_elim
      (λ (h : (u : View) × (get_elem? s.views t ≡ some u)). sym (q.views t h.0 (still_there t h.0 ne h.1)).at ∙ (r.views t h.0 h.1).at)
      (λ (past : length s.views ≤ t). q.unseated t (let c = length-set s.views id w in let e = ap length is in omega arith) ∙ sym (r.unseated t past))
      (at_or_past s.views t)

  -- neither before nor after does the thread hold the turn
  module _ (was : r.places id ≢ Holding) (now : q.places id ≢ Holding) where
    quiet_turn : get_or new.words 0 0 ≡ get_or s.words 0 0
    quiet_turn = ⊎_elim
        (λ (free : get_or s.words 0 0 ≡ 0). ⊎_elim
        (λ (z : get_or new.words 0 0 ≡ 0). z ∙ sym free)
        (λ (h : (k : ℕ) × (get_or new.words 0 0 ≡ suc k)).
        let holds = q.turn h.0 h.1 in
        let ne : h.0 ≢ id = λ e. now (ap q.places (sym e) ∙ holds) in
        let before = r.holder h.0 (sym (other h.0 ne) ∙ holds) in absurd (omega arith))
        (none_or_suc (get_or new.words 0 0)))
        (λ (h : (k : ℕ) × (get_or s.words 0 0 ≡ suc k)).
        let holds = r.turn h.0 h.1 in
        let ne : h.0 ≢ id = λ e. was (ap r.places (sym e) ∙ holds) in
        q.holder h.0 (other h.0 ne ∙ holds) ∙ sym h.1)
        (none_or_suc (get_or s.words 0 0))

    quiet_posted : q.posted_now ≡ r.posted_now
    quiet_posted = ⊎_elim
        (λ (free : get_or s.words 0 0 ≡ 0). (q.free (quiet_turn ∙ free)).0 ∙ sym (r.free free).0)
        (λ (h : (k : ℕ) × (get_or s.words 0 0 ≡ suc k)).
        let holds = r.turn h.0 h.1 in
        let ne : h.0 ≢ id = λ e. was (ap r.places (sym e) ∙ holds) in
        ⊎_elim
        (λ (x : (u : View) × (get_elem? s.views h.0 ≡ some u)).
        let before = (r.views h.0 x.0 x.1).posts ∙ ap (λ p. lists_at p r.posted_now) holds in
        let after = (q.views h.0 x.0 (still_there h.0 x.0 ne x.1)).posts ∙ ap (λ p. lists_at p q.posted_now) (other h.0 ne ∙ holds) in
        sym after ∙ before)
        (λ (past : length s.views ≤ h.0). absurd (not_holding (r.places h.0) (r.unseated h.0 past) holds))
        (at_or_past s.views h.0))
        (none_or_suc (get_or s.words 0 0))

    quiet_others : (j : ℕ) → j < suc n → j ≢ suc id → get_or new.words j 0 ≡ get_or s.words j 0
    quiet_others zero lt ne = quiet_turn
    quiet_others (suc t) lt ne =
        q.words t (omega arith) ∙ (λ i. word_of (other t (λ e. ne (ap suc e)) i) (is_in t (quiet_posted i))) ∙ sym (r.words t (omega arith))

    -- a step on the own word
    own_word : (x : ℕ) → x ≡ word_of (q.places id) (is_in id r.posted_now) → new.words ≡ set s.words (suc id) x
    own_word x e = set_at s.words new.words (suc n) (suc id) x r.word_count q.word_count (let l = is_below owner n s r id v at in omega arith)
        (q.words id (is_below owner n s r id v at) ∙ ap (λ l. word_of (q.places id) (is_in id l)) quiet_posted ∙ sym e) quiet_others

    -- a step on the turn that another thread holds
    same_words : (y : ℕ) → y ≡ get_or s.words 0 0 → q.places id ≡ r.places id → new.words ≡ set s.words 0 y
    same_words y e stays = set_at s.words new.words (suc n) 0 y r.word_count q.word_count (omega arith) (quiet_turn ∙ sym e) by_index
      where
        by_index : (j : ℕ) → j < suc n → j ≢ 0 → get_or new.words j 0 ≡ get_or s.words j 0
        by_index zero lt ne = absurd (ne refl)
        by_index (suc t) lt ne = ⊎_elim
            (λ (same : t ≡ id). ap (λ k. get_or new.words (suc k) 0) same ∙ q.words id (is_below owner n s r id v at) ∙ (λ i. word_of (stays i) (is_in id (quiet_posted i))) ∙ sym (r.words id (is_below owner n s r id v at)) ∙ ap (λ k. get_or s.words (suc k) 0) (sym same))
            (λ (apart : t ≢ id). quiet_others (suc t) lt (λ z. apart (omega arith)))
            (same_or_not t id)

  -- before and after the thread holds the turn
  module _ (was : r.places id ≡ Holding) (now : q.places id ≡ Holding) where
    held_turn : get_or new.words 0 0 ≡ get_or s.words 0 0
    held_turn = q.holder id now ∙ sym (r.holder id was)

    held_places : (t : ℕ) → q.places t ≡ r.places t
    held_places t = ⊎_elim (λ (same : t ≡ id). ap q.places same ∙ now ∙ sym (ap r.places same ∙ was)) (λ (ne : t ≢ id). other t ne) (same_or_not t id)

    held_posted : q.posted_now ≡ w.posted
    held_posted = sym (my_posts ∙ ap (λ p. lists_at p q.posted_now) now)

    had_posted : r.posted_now ≡ v.posted
    had_posted = sym ((r.views id v at).posts ∙ ap (λ p. lists_at p r.posted_now) was)

    -- a step on the word of u
    others_word : (u x : ℕ) → u < n → x ≡ word_of (r.places u) (is_in u w.posted) → ((t : ℕ) → t ≢ u → is_in t w.posted ≡ is_in t v.posted) → new.words ≡ set s.words (suc u) x
    others_word u x lt e apart = set_at s.words new.words (suc n) (suc u) x r.word_count q.word_count (omega arith)
        (q.words u lt ∙ (λ i. word_of (held_places u i) (is_in u (held_posted i))) ∙ sym e) by_index
      where
        by_index : (j : ℕ) → j < suc n → j ≢ suc u → get_or new.words j 0 ≡ get_or s.words j 0
        by_index zero l ne = held_turn
        by_index (suc t) l ne = q.words t (omega arith) ∙ (λ i. word_of (held_places t i) (is_in t (held_posted i))) ∙ ap (word_of (r.places t)) (apart t (λ z. ne (ap suc z)))
            ∙ ap (λ k. word_of (r.places t) (is_in t k)) (sym had_posted) ∙ sym (r.words t (omega arith))

  -- the thread gives the turn back
  gives_turn : r.places id ≡ Holding → q.places id ≡ Outside → ((u : ℕ) → u < n → is_in u r.posted_now ≡ false) → new.words ≡ set s.words 0 0
  gives_turn was now clear = set_at s.words new.words (suc n) 0 0 r.word_count q.word_count (omega arith) free by_index
    where
      free : get_or new.words 0 0 ≡ 0
      free = ⊎_elim (λ (z : get_or new.words 0 0 ≡ 0). z)
          (λ (h : (k : ℕ) × (get_or new.words 0 0 ≡ suc k)).
          let holds = q.turn h.0 h.1 in
          let ne : h.0 ≢ id = λ e. outside_not (q.places id) now (ap q.places (sym e) ∙ holds) in
          let before = r.holder h.0 (sym (other h.0 ne) ∙ holds) in
          let mine_before = r.holder id was in absurd (ne (omega arith)))
          (none_or_suc (get_or new.words 0 0))

      no_stop : (t : ℕ) → is_in t q.posted_now ≡ false
      no_stop t = ap (is_in t) (q.free free).0

      by_index : (j : ℕ) → j < suc n → j ≢ 0 → get_or new.words j 0 ≡ get_or s.words j 0
      by_index zero lt ne = absurd (ne refl)
      by_index (suc t) lt ne = q.words t (omega arith) ∙ ap (word_of (q.places t)) (no_stop t) ∙ ⊎_elim
          (λ (same : t ≡ id). ap (λ p. word_of p false) (ap q.places same ∙ now) ∙ sym (ap (λ p. word_of p false) (ap r.places same ∙ was)))
          (λ (apart : t ≢ id). ap (λ p. word_of p false) (other t apart))
          (same_or_not t id) ∙ ap (word_of (r.places t)) (sym (clear t (omega arith))) ∙ sym (r.words t (omega arith))

  -- the thread takes the free turn
  takes_turn : get_or s.words 0 0 ≡ 0 → r.places id ≡ Outside → q.places id ≡ Holding → w.posted ≡ v.posted → new.words ≡ set s.words 0 (suc id)
  takes_turn free was now same_list = set_at s.words new.words (suc n) 0 (suc id) r.word_count q.word_count (omega arith) (q.holder id now) by_index
    where
      none_before : r.posted_now ≡ []
      none_before = (r.free free).0

      none_after : q.posted_now ≡ []
      none_after = sym (my_posts ∙ ap (λ p. lists_at p q.posted_now) now) ∙ same_list ∙ (r.views id v at).posts ∙ ap (λ p. lists_at p r.posted_now) was

      by_index : (j : ℕ) → j < suc n → j ≢ 0 → get_or new.words j 0 ≡ get_or s.words j 0
      by_index zero lt ne = absurd (ne refl)
      by_index (suc t) lt ne = q.words t (omega arith) ∙ ap (λ l. word_of (q.places t) (is_in t l)) none_after ∙ ⊎_elim
          (λ (same : t ≡ id). ap (λ p. word_of p false) (ap q.places same ∙ now) ∙ sym (ap (λ p. word_of p false) (ap r.places same ∙ was)))
          (λ (apart : t ≢ id). ap (λ p. word_of p false) (other t apart))
          (same_or_not t id) ∙ ap (λ l. word_of (r.places t) (is_in t l)) (sym none_before) ∙ sym (r.words t (omega arith))

module _ {P : Type 0} (owner : P → ℕ) (n id : ℕ) (s new : State (Option P) View) (v : View) (r : StopRule owner n s) (q : StopRule owner n new) (at : get_elem? s.views id ≡ some v) where
  here : (p : Place) → v.place ≡ p → r.places id ≡ p
  here p e = sym (r.views id v at).at ∙ e

  found : (p : Place) → v.place ≡ p → get_or s.words (suc id) 0 ≡ word_of p (is_in id r.posted_now)
  found p e = r.words id (is_below owner n s r id v at) ∙ ap (λ k. word_of k (is_in id r.posted_now)) (here p e)

  pub one_word : (step : WordStep) → MayDo n step v → new.views ≡ set s.views id (view_after step (get_or s.words (place_of id step) 0) v) → new.words ≡ words_after id step s.words
  one_word Resume may is =
      let b = is_in id r.posted_now in
      let x = get_or s.words (suc id) 0 in
      let w = view_after Resume x v in
      let after = mine owner n s new r q id v w at is ∙ resumed v x b (found Parked may) may in
      own_word owner n s new r q id v w at is (not_holding (r.places id) (here Parked may)) (λ h. resumed_not b (sym after ∙ h)) (becomes id Resume x)
      (ap (becomes id Resume) (found Parked may) ∙ resume_becomes id b ∙ ap (λ p. word_of p b) (sym after))
  one_word Enter may is =
      let b = is_in id r.posted_now in
      let x = get_or s.words (suc id) 0 in
      let w = view_after Enter x v in
      let after = mine owner n s new r q id v w at is ∙ entered v x b (found Outside may) may in
      own_word owner n s new r q id v w at is (outside_not (r.places id) (here Outside may)) (λ h. entered_not b (sym after ∙ h)) (becomes id Enter x)
      (ap (becomes id Enter) (found Outside may) ∙ enter_becomes id b ∙ ap (λ p. word_of p b) (sym after))
  one_word Leave may is =
      let b = is_in id r.posted_now in
      let x = get_or s.words (suc id) 0 in
      let w = view_after Leave x v in
      let after : q.places id ≡ Outside = mine owner n s new r q id v w at is in
      own_word owner n s new r q id v w at is (inside_not (r.places id) (here Inside may)) (outside_not (q.places id) after) (becomes id Leave x)
      (ap (becomes id Leave) (found Inside may) ∙ leave_becomes id b ∙ ap (λ p. word_of p b) (sym after))
  one_word Park may is =
      let b = is_in id r.posted_now in
      let x = get_or s.words (suc id) 0 in
      let w = view_after Park x v in
      let after : q.places id ≡ Parked = mine owner n s new r q id v w at is in
      own_word owner n s new r q id v w at is (outside_not (r.places id) (here Outside may)) (not_holding (q.places id) after) (becomes id Park x)
      (ap (becomes id Park) (found Outside may) ∙ park_becomes id b ∙ ap (λ p. word_of p b) (sym after))
  one_word Claim may is =
      let x = get_or s.words 0 0 in
      let w = view_after Claim x v in
      ⊎_elim
      (λ (free : x ≡ 0).
      let placed : w.place ≡ Holding = ap (λ k. (view_after Claim k v).place) free in
      takes_turn owner n s new r q id v w at is free (here Outside may) (mine owner n s new r q id v w at is ∙ placed) (ap (λ k. (view_after Claim k v).posted) free) ∙ ap (set s.words 0) (sym (claim_becomes id x free)))
      (λ (ne : x ≢ 0).
      let stays : w.place ≡ v.place = ap (λ (k : View). k.place) (if_other x 0 (moved v Holding) v ne) in
      let after : q.places id ≡ Outside = mine owner n s new r q id v w at is ∙ stays ∙ may in
      same_words owner n s new r q id v w at is (outside_not (r.places id) (here Outside may)) (outside_not (q.places id) after) (becomes id Claim x) (taken_becomes id x ne) (after ∙ sym (here Outside may)))
      (same_or_not x 0)
  one_word (Post u) may is =
      let x = get_or s.words (suc u) 0 in
      let w = view_after (Post u) x v in
      let now : q.places id ≡ Holding = mine owner n s new r q id v w at is ∙ may.0 in
      others_word owner n s new r q id v w at is (here Holding may.0) now u (becomes id (Post u) x) may.1
      (ap (becomes id (Post u)) (r.words u may.1) ∙ post_becomes id u (r.places u) (is_in u r.posted_now) ∙ ap (word_of (r.places u)) (sym (in_here u u v.posted refl)))
      (λ t ne. in_else t u v.posted ne)
  one_word (Look u) may is =
      let x = get_or s.words (suc u) 0 in
      let w = view_after (Look u) x v in
      let now : q.places id ≡ Holding = mine owner n s new r q id v w at is ∙ looked_place v u (has 4 x) (is_in u v.seen) ∙ may.0 in
      let same : w.posted ≡ v.posted = looked_posted v u (has 4 x) (is_in u v.seen) in
      let had = had_posted owner n s new r q id v w at is (here Holding may.0) now in
      let lt = (r.posted_in u (ap (is_in u) had ∙ may.1)).0 in
      others_word owner n s new r q id v w at is (here Holding may.0) now u x lt
      (r.words u lt ∙ ap (λ l. word_of (r.places u) (is_in u l)) (had ∙ sym same))
      (λ t ne. ap (is_in t) same)
  one_word (Release u) may is =
      let x = get_or s.words (suc u) 0 in
      let w = view_after (Release u) x v in
      let now : q.places id ≡ Holding = mine owner n s new r q id v w at is ∙ may.0 in
      let seen_now : is_in u r.seen_now ≡ true = sym (ap (is_in u) ((r.views id v at).sees ∙ ap (λ p. lists_at p r.seen_now) (here Holding may.0))) ∙ may.1 in
      let its = r.seen_in u seen_now in
      let lt = (r.posted_in u its.0).0 in
      others_word owner n s new r q id v w at is (here Holding may.0) now u (becomes id (Release u) x) lt
      (ap (becomes id (Release u)) (r.words u lt ∙ (λ i. word_of (its.1 i) (its.0 i))) ∙ release_becomes id u ∙ (λ i. word_of (sym its.1 i) (sym (not_in_without u v.posted) i)))
      (λ t ne. in_without t u v.posted ne)
  one_word Return may is =
      let x = get_or s.words 0 0 in
      let w = view_after Return x v in
      let number = (r.views id v at).number in
      let had : r.posted_now ≡ v.posted = sym ((r.views id v at).posts ∙ ap (λ p. lists_at p r.posted_now) (here Holding may.0)) in
      gives_turn owner n s new r q id v w at is (here Holding may.0) (mine owner n s new r q id v w at is)
      (λ u lt. ⊎_elim
      (λ (same : u ≡ id). none_own u same)
      (λ (ne : u ≢ id). ap (is_in u) had ∙ may.1 u lt (λ e. ne (e ∙ number)))
      (same_or_not u id))
    where
      none_own : (u : ℕ) → u ≡ id → is_in u r.posted_now ≡ false
      none_own u same = by_test (is_in u r.posted_now) refl
        where
          by_test : (b : Bool) → is_in u r.posted_now ≡ b → is_in u r.posted_now ≡ false
          by_test true e = absurd ((r.posted_in u e).1 (r.holder id (here Holding may.0) ∙ ap suc (sym same)))
          by_test false e = e

-- the bits of a word
parked_word : (b : Bool) → (word_of Parked b ≡ 4) ⊎ (word_of Parked b ≡ 6)
parked_word true = inr refl
parked_word false = inl refl

outside_word : (b : Bool) → (word_of Outside b ≡ 0) ⊎ (word_of Outside b ≡ 2)
outside_word true = inr refl
outside_word false = inl refl

inside_word : (b : Bool) → has 1 (word_of Inside b) ≡ true
inside_word true = refl
inside_word false = refl

free_word : (b : Bool) → (has 1 (word_of Outside b) ≡ false) × (has 4 (word_of Outside b) ≡ false)
free_word true = (refl, refl)
free_word false = (refl, refl)

stop_word : (p : Place) (b : Bool) → has 2 (word_of p b) ≡ b
stop_word Parked true = refl
stop_word Parked false = refl
stop_word Outside true = refl
stop_word Outside false = refl
stop_word Inside true = refl
stop_word Inside false = refl
stop_word Holding true = refl
stop_word Holding false = refl

module _ {P : Type 0} (owner : P → ℕ) (n id turn : ℕ) (words : List ℕ) (s : State (Option P) View) (v : View) (r : StopRule owner n s) (all : s.words ≡ turn ∷ words) (at : get_elem? s.views id ≡ some v) where
  -- the word of a thread
  own : (t : ℕ) → t < n → get_or words t 0 ≡ word_of (r.places t) (is_in t r.posted_now)
  own t lt = sym (ap (λ l. get_or l (suc t) 0) all) ∙ r.words t lt

  mine_at : (p : Place) → v.place ≡ p → get_or words id 0 ≡ word_of p (is_in id r.posted_now)
  mine_at p e = own id (is_below owner n s r id v at) ∙ ap (λ k. word_of k (is_in id r.posted_now)) (sym (r.views id v at).at ∙ e)

  many : length words ≡ n
  many = let c = r.word_count in let e : length s.words ≡ suc (length words) = ap length all in omega arith

  my_turn : v.place ≡ Holding → turn ≡ suc id
  my_turn e = sym (ap (λ l. get_or l 0 0) all) ∙ r.holder id (sym (r.views id v at).at ∙ e)

  posted_is : v.place ≡ Holding → r.posted_now ≡ v.posted
  posted_is e = sym ((r.views id v at).posts ∙ ap (λ p. lists_at p r.posted_now) (sym (r.views id v at).at ∙ e))

  seen_is : v.place ≡ Holding → r.seen_now ≡ v.seen
  seen_is e = sym ((r.views id v at).sees ∙ ap (λ p. lists_at p r.seen_now) (sym (r.views id v at).at ∙ e))

  pub may_step : (step : WordStep) → MayDo n step v → MayStep id step turn words
  may_step Resume may = subst (λ k. (k ≡ 4) ⊎ (k ≡ 6)) (sym (mine_at Parked may)) (parked_word (is_in id r.posted_now))
  may_step Enter may = subst (λ k. (k ≡ 0) ⊎ (k ≡ 2)) (sym (mine_at Outside may)) (outside_word (is_in id r.posted_now))
  may_step Leave may = ap (has 1) (mine_at Inside may) ∙ inside_word (is_in id r.posted_now)
  may_step Park may = let f = free_word (is_in id r.posted_now) in (ap (has 1) (mine_at Outside may) ∙ f.0, ap (has 4) (mine_at Outside may) ∙ f.1)
  may_step Claim may = subst (λ k. (k ≡ 0) ⊎ (k ≡ 2)) (sym (mine_at Outside may)) (outside_word (is_in id r.posted_now))
  may_step (Post u) may = let c = many in let l = may.1 in (omega arith, my_turn may.0, λ e. may.2 (e ∙ sym (r.views id v at).number))
  may_step (Look u) may =
      let posted = ap (is_in u) (posted_is may.0) ∙ may.1 in
      let lt = (r.posted_in u posted).0 in
      let c = many in (omega arith, my_turn may.0, ap (has 2) (own u lt) ∙ stop_word (r.places u) (is_in u r.posted_now) ∙ posted)
  may_step (Release u) may =
      let its = r.seen_in u (ap (is_in u) (seen_is may.0) ∙ may.1) in
      let lt = (r.posted_in u its.0).0 in
      let is : get_or words u 0 ≡ word_of Parked true = own u lt ∙ (λ i. word_of (its.1 i) (its.0 i)) in
      let c = many in (omega arith, my_turn may.0, ap (has 2) is, ap (has 4) is)
  may_step Return may = (
    my_turn may.0,
    λ u lt. let c = many in let l : u < n = omega arith in ap (has 2) (own u l) ∙ stop_word (r.places u) (is_in u r.posted_now) ∙ ⊎_elim
        (λ (same : u ≡ id). none_own u same)
        (λ (ne : u ≢ id). ap (is_in u) (posted_is may.0) ∙ may.1 u l (λ e. ne (e ∙ (r.views id v at).number)))
        (same_or_not u id),
  )
    where
      none_own : (u : ℕ) → u ≡ id → is_in u r.posted_now ≡ false
      none_own u same = by_test (is_in u r.posted_now) refl
        where
          by_test : (b : Bool) → is_in u r.posted_now ≡ b → is_in u r.posted_now ≡ false
          by_test true e = absurd ((r.posted_in u e).1 (r.holder id (sym (r.views id v at).at ∙ may.0) ∙ ap suc (sym same)))
          by_test false e = e
