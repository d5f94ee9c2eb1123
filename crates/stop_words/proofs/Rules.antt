-- Each kind of step keeps the rule.
use Rattle.std.proofs.Common.{◌≡◌, ◌≢◌, ◌<◌, ◌≤◌, ℕ, suc, Bool, true, false, List, [], ◌∷◌, Option, length, set, get_or, refl, sym, ap, ◌∙◌, subst, ⊎_elim, length-set, get_or-set_same, get_or-set_other, arith}
use Rattle.std.proofs.lemmas.List.{set-get_or}
use mathlib.Core.Option.{some, none, some-ne-none, some-injective}
use lib.ListN.{get_elem?}
use Rattle.atomic_table.specs.Table.{State}
use Rattle.atomic_table.proofs.Lists.{at_set}
use Rattle.stop_words.specs.declared.view.Place.{Place}
use Rattle.stop_words.specs.declared.view.Place.TheVariants.{Parked, Outside, Holding}
use Rattle.stop_words.specs.declared.view.View.{View}
use Rattle.stop_words.specs.Places.{word_of, is_in, without, lists_at, is_home}
use Rattle.stop_words.specs.Rule.{FitsView, LiesAt, StopRule}
use Rattle.stop_words.proofs.Basics.{same_or_not, below, put, put_here, put_else, in_here, in_else, not_in_without, in_without, lists_at_else, none_in, off}

-- the view is the same but for its place, its lists, and what tells of steps
pub record Keeps (v w : View) : Type 0 where
  pub thread : w.thread ≡ v.thread
  pub given : w.given ≡ v.given

-- one slot changed
pub record SlotChange {P : Type 0} (homes hs : List (mathlib.Core.Option.Option (Option P))) (i : ℕ) : Type 0 where
  pub count : length hs ≡ length homes
  pub others : (t : ℕ) → t ≢ i → get_elem? hs t ≡ get_elem? homes t

pub no_change : {P : Type 0} (homes : List (mathlib.Core.Option.Option (Option P))) (i : ℕ) → SlotChange homes homes i
no_change homes i = record { count = refl; others = λ t ne. refl }

pub fits_set : (V : ℕ → View → Type 0) (views : List View) (id : ℕ) (w : View) → ((j : ℕ) (u : View) → j ≢ id → get_elem? views j ≡ some u → V j u) → V id w → (j : ℕ) (u : View) → get_elem? (set views id w) j ≡ some u → V j u
fits_set V views id w others mine j u e =
    ⊎_elim
    (λ (x : (j ≡ id) × (w ≡ u)). subst (λ (y : ℕ × View). V y.0 y.1) (λ i. (sym x.0 i, x.1 i)) mine)
    (λ (x : (j ≢ id) × (get_elem? views j ≡ some u)). others j u x.0 x.1)
    (at_set views id j w u e)

module _ {P : Type 0} (owner : P → ℕ) where
  pub lies_same : (hs homes : List (mathlib.Core.Option.Option (Option P))) (t : ℕ) (b : Bool) → get_elem? hs t ≡ get_elem? homes t → LiesAt owner homes t b → LiesAt owner hs t b
  lies_same hs homes t true e l = (l.0, e ∙ l.1, l.2)
  lies_same hs homes t false e l = e ∙ l

module _ {P : Type 0} (owner : P → ℕ) (n : ℕ) (s : State (Option P) View) (r : StopRule owner n s) (id : ℕ) (v : View) (at : get_elem? s.views id ≡ some v) where
  pub is_below : id < n
  is_below = let h = below s.views id v at in let k = r.view_count in omega arith

  -- a step on the own word, which moves the thread to the place p
  pub own_step : r.places id ≢ Holding → (p : Place) → p ≢ Holding → (is_in id r.seen_now ≡ true → p ≡ Parked)
      → (x : ℕ) → x ≡ word_of p (is_in id r.posted_now)
      → (hs : List (mathlib.Core.Option.Option (Option P))) → SlotChange s.homes hs id → LiesAt owner hs id (is_home p (is_in id r.seen_now))
      → (w : View) → Keeps v w → w.place ≡ p → w.posted ≡ v.posted → w.seen ≡ v.seen
      → StopRule owner n (record { words = set s.words (suc id) x; homes = hs; views = set s.views id w })
  own_step was p quiet stays x is hs changed lies w keeps placed posts sees =
      let mine = r.views id v at in
      let old = get_or-set_other s.words (suc id) 0 x 0 (λ e. omega arith) in record {
        places = put id p r.places;
        posted_now = r.posted_now;
        seen_now = r.seen_now;
        word_count = length-set s.words (suc id) x ∙ r.word_count;
        slot_count = changed.count ∙ r.slot_count;
        view_count = subst (λ k. k ≤ n) (sym (length-set s.views id w)) r.view_count;
        holder = λ t e. ⊎_elim
            (λ (same : t ≡ id). absurd (quiet (sym (put_here id p r.places t same) ∙ e)))
            (λ (ne : t ≢ id). old ∙ r.holder t (sym (put_else id p r.places t ne) ∙ e))
            (same_or_not t id);
        turn = λ t e. let h = r.turn t (sym old ∙ e) in put_else id p r.places t (λ same. was (sym (ap r.places same) ∙ h)) ∙ h;
        free = λ e. r.free (sym old ∙ e);
        words = λ t lt. ⊎_elim
            (λ (same : t ≡ id). ap (λ k. get_or (set s.words (suc id) x) (suc k) 0) same ∙ get_or-set_same s.words (suc id) x 0 (let b = is_below in let c = r.word_count in omega arith) ∙ is
            ∙ ap (λ k. word_of p (is_in k r.posted_now)) (sym same) ∙ ap (λ q. word_of q (is_in t r.posted_now)) (sym (put_here id p r.places t same)))
            (λ (ne : t ≢ id). get_or-set_other s.words (suc id) (suc t) x 0 (λ e. ne (omega arith)) ∙ r.words t lt ∙ ap (λ q. word_of q (is_in t r.posted_now)) (sym (put_else id p r.places t ne)))
            (same_or_not t id);
        slots = λ t lt. ⊎_elim
            (λ (same : t ≡ id). subst (λ k. LiesAt owner hs k (is_home (put id p r.places k) (is_in k r.seen_now))) (sym same) (subst (λ q. LiesAt owner hs id (is_home q (is_in id r.seen_now))) (sym (put_here id p r.places id refl)) lies))
            (λ (ne : t ≢ id). subst (λ q. LiesAt owner hs t (is_home q (is_in t r.seen_now))) (sym (put_else id p r.places t ne)) (lies_same owner hs s.homes t (is_home (r.places t) (is_in t r.seen_now)) (changed.others t ne) (r.slots t lt)))
            (same_or_not t id);
        posted_in = λ u e. let h = r.posted_in u e in (h.0, λ k. h.1 (sym old ∙ k));
        seen_in = λ u e. let h = r.seen_in u e in (
          h.0,
          ⊎_elim
              (λ (same : u ≡ id). put_here id p r.places u same ∙ stays (sym (ap (λ k. is_in k r.seen_now) same) ∙ e))
              (λ (ne : u ≢ id). put_else id p r.places u ne ∙ h.1)
              (same_or_not u id),
        );
        views = fits_set (FitsView (put id p r.places) r.posted_now r.seen_now (length (set s.views id w))) s.views id w
            (λ j u ne e. let f = r.views j u e in let q = sym (put_else id p r.places j ne) in record {
              number = f.number;
              at = f.at ∙ q;
              posts = f.posts ∙ ap (λ k. lists_at k r.posted_now) q;
              sees = f.sees ∙ ap (λ k. lists_at k r.seen_now) q;
              gives = λ z. f.gives z ∙ sym (length-set s.views id w);
            })
            (let q = put_here id p r.places id refl in record {
              number = keeps.thread ∙ mine.number;
              at = placed ∙ sym q;
              posts = posts ∙ mine.posts ∙ lists_at_else (r.places id) r.posted_now was ∙ sym (ap (λ k. lists_at k r.posted_now) q ∙ lists_at_else p r.posted_now quiet);
              sees = sees ∙ mine.sees ∙ lists_at_else (r.places id) r.seen_now was ∙ sym (ap (λ k. lists_at k r.seen_now) q ∙ lists_at_else p r.seen_now quiet);
              gives = λ z. keeps.given ∙ mine.gives z ∙ sym (length-set s.views id w);
            });
        unseated = λ t le. let b = below s.views id v at in let c = length-set s.views id w in put_else id p r.places t (λ e. omega arith) ∙ r.unseated t (omega arith);
      }

  -- a step that finds the word x and leaves it
  pub same_step : (i x : ℕ) → get_or s.words i 0 ≡ x → (w : View) → Keeps v w → w.place ≡ v.place → w.posted ≡ v.posted → w.seen ≡ v.seen
      → StopRule owner n (record { words = set s.words i x; homes = s.homes; views = set s.views id w })
  same_step i x is w keeps placed posts sees =
      let mine = r.views id v at in
      let ws : set s.words i x ≡ s.words = ap (λ k. set s.words i k) (sym is) ∙ set-get_or s.words i 0 in
      subst (λ k. StopRule owner n (record { words = k; homes = s.homes; views = set s.views id w })) (sym ws) (record {
        places = r.places;
        posted_now = r.posted_now;
        seen_now = r.seen_now;
        word_count = r.word_count;
        slot_count = r.slot_count;
        view_count = subst (λ k. k ≤ n) (sym (length-set s.views id w)) r.view_count;
        holder = r.holder;
        turn = r.turn;
        free = r.free;
        words = r.words;
        slots = r.slots;
        posted_in = r.posted_in;
        seen_in = r.seen_in;
        views = fits_set (FitsView r.places r.posted_now r.seen_now (length (set s.views id w))) s.views id w
            (λ j u ne e. let f = r.views j u e in record { number = f.number; at = f.at; posts = f.posts; sees = f.sees; gives = λ z. f.gives z ∙ sym (length-set s.views id w) })
            (record { number = keeps.thread ∙ mine.number; at = placed ∙ mine.at; posts = posts ∙ mine.posts; sees = sees ∙ mine.sees; gives = λ z. keeps.given ∙ mine.gives z ∙ sym (length-set s.views id w) });
        unseated = λ t le. let c = length-set s.views id w in r.unseated t (omega arith);
      })

  -- where a step changes the holder's lists, it alone holds the turn
  pub alone : r.places id ≡ Holding → (j : ℕ) → j ≢ id → r.places j ≢ Holding
  alone holds j ne e = let a = r.holder j e in let b = r.holder id holds in ne (omega arith)

  holder_views : r.places id ≡ Holding → (ps ss : List ℕ) (w : View) → Keeps v w → w.place ≡ v.place → w.posted ≡ ps → w.seen ≡ ss
      → (j : ℕ) (u : View) → get_elem? (set s.views id w) j ≡ some u → FitsView r.places ps ss (length (set s.views id w)) j u
  holder_views holds ps ss w keeps placed posts sees =
      let mine = r.views id v at in
      fits_set (FitsView r.places ps ss (length (set s.views id w))) s.views id w
      (λ j u ne e. let f = r.views j u e in let q = alone holds j ne in record {
        number = f.number;
        at = f.at;
        posts = f.posts ∙ lists_at_else (r.places j) r.posted_now q ∙ sym (lists_at_else (r.places j) ps q);
        sees = f.sees ∙ lists_at_else (r.places j) r.seen_now q ∙ sym (lists_at_else (r.places j) ss q);
        gives = λ z. f.gives z ∙ sym (length-set s.views id w);
      })
      (record {
        number = keeps.thread ∙ mine.number;
        at = placed ∙ mine.at;
        posts = posts ∙ sym (ap (λ q. lists_at q ps) holds);
        sees = sees ∙ sym (ap (λ q. lists_at q ss) holds);
        gives = λ z. keeps.given ∙ mine.gives z ∙ sym (length-set s.views id w);
      })

  still_unseated : (w : View) (t : ℕ) → length (set s.views id w) ≤ t → r.places t ≡ Parked
  still_unseated w t le = let c = length-set s.views id w in r.unseated t (omega arith)

  -- the holder posts a stop to u
  pub post_step : r.places id ≡ Holding → (u : ℕ) → u < n → u ≢ id → (x : ℕ) → x ≡ word_of (r.places u) true
      → (w : View) → Keeps v w → w.place ≡ v.place → w.posted ≡ u ∷ v.posted → w.seen ≡ v.seen
      → StopRule owner n (record { words = set s.words (suc u) x; homes = s.homes; views = set s.views id w })
  post_step holds u lt apart x is w keeps placed posts sees =
      let mine = r.views id v at in
      let old = get_or-set_other s.words (suc u) 0 x 0 (λ e. omega arith) in
      let now = r.holder id holds in record {
        places = r.places;
        posted_now = u ∷ r.posted_now;
        seen_now = r.seen_now;
        word_count = length-set s.words (suc u) x ∙ r.word_count;
        slot_count = r.slot_count;
        view_count = subst (λ k. k ≤ n) (sym (length-set s.views id w)) r.view_count;
        holder = λ t e. old ∙ r.holder t e;
        turn = λ t e. r.turn t (sym old ∙ e);
        free = λ e. let z = sym old ∙ e in absurd (omega arith);
        words = λ t below_n. ⊎_elim
            (λ (same : t ≡ u). ap (λ k. get_or (set s.words (suc u) x) (suc k) 0) same ∙ get_or-set_same s.words (suc u) x 0 (let c = r.word_count in omega arith) ∙ is
            ∙ ap (λ k. word_of (r.places k) true) (sym same) ∙ ap (λ b. word_of (r.places t) b) (sym (in_here t u r.posted_now same)))
            (λ (ne : t ≢ u). get_or-set_other s.words (suc u) (suc t) x 0 (λ e. ne (omega arith)) ∙ r.words t below_n ∙ ap (λ b. word_of (r.places t) b) (sym (in_else t u r.posted_now ne)))
            (same_or_not t u);
        slots = r.slots;
        posted_in = λ k e. ⊎_elim
            (λ (same : k ≡ u). (subst (λ j. j < n) (sym same) lt, λ z. let y = sym old ∙ z in apart (omega arith)))
            (λ (ne : k ≢ u). let h = r.posted_in k (sym (in_else k u r.posted_now ne) ∙ e) in (h.0, λ z. h.1 (sym old ∙ z)))
            (same_or_not k u);
        seen_in = λ k e. let h = r.seen_in k e in (⊎_elim (λ (same : k ≡ u). in_here k u r.posted_now same) (λ (ne : k ≢ u). in_else k u r.posted_now ne ∙ h.0) (same_or_not k u), h.1);
        views = holder_views holds (u ∷ r.posted_now) r.seen_now w keeps placed (posts ∙ ap (λ l. u ∷ l) (mine.posts ∙ ap (λ q. lists_at q r.posted_now) holds)) (sees ∙ mine.sees ∙ ap (λ q. lists_at q r.seen_now) holds);
        unseated = still_unseated w;
      }

  -- the holder sees u parked, and takes its slot
  pub look_step : r.places id ≡ Holding → (u : ℕ) → is_in u r.posted_now ≡ true → r.places u ≡ Parked → (i x : ℕ) → get_or s.words i 0 ≡ x
      → (hs : List (mathlib.Core.Option.Option (Option P))) → SlotChange s.homes hs u → get_elem? hs u ≡ some none
      → (w : View) → Keeps v w → w.place ≡ v.place → w.posted ≡ v.posted → w.seen ≡ u ∷ v.seen
      → StopRule owner n (record { words = set s.words i x; homes = hs; views = set s.views id w })
  look_step holds u posted parked i x is hs changed gone w keeps placed posts sees =
      let mine = r.views id v at in
      let ws : set s.words i x ≡ s.words = ap (λ k. set s.words i k) (sym is) ∙ set-get_or s.words i 0 in
      subst (λ k. StopRule owner n (record { words = k; homes = hs; views = set s.views id w })) (sym ws) (record {
        places = r.places;
        posted_now = r.posted_now;
        seen_now = u ∷ r.seen_now;
        word_count = r.word_count;
        slot_count = changed.count ∙ r.slot_count;
        view_count = subst (λ k. k ≤ n) (sym (length-set s.views id w)) r.view_count;
        holder = r.holder;
        turn = r.turn;
        free = λ e. let h = r.holder id holds in absurd (omega arith);
        words = r.words;
        slots = λ t lt. ⊎_elim
            (λ (same : t ≡ u). subst (λ b. LiesAt owner hs t b) (sym (ap (is_home (r.places t)) (in_here t u r.seen_now same) ∙ ap (λ q. is_home q true) (ap r.places same ∙ parked))) (ap (get_elem? hs) same ∙ gone))
            (λ (ne : t ≢ u). subst (λ b. LiesAt owner hs t (is_home (r.places t) b)) (sym (in_else t u r.seen_now ne)) (lies_same owner hs s.homes t (is_home (r.places t) (is_in t r.seen_now)) (changed.others t ne) (r.slots t lt)))
            (same_or_not t u);
        posted_in = r.posted_in;
        seen_in = λ k e. ⊎_elim
            (λ (same : k ≡ u). (ap (λ j. is_in j r.posted_now) same ∙ posted, ap r.places same ∙ parked))
            (λ (ne : k ≢ u). r.seen_in k (sym (in_else k u r.seen_now ne) ∙ e))
            (same_or_not k u);
        views = holder_views holds r.posted_now (u ∷ r.seen_now) w keeps placed (posts ∙ mine.posts ∙ ap (λ q. lists_at q r.posted_now) holds) (sees ∙ ap (λ l. u ∷ l) (mine.sees ∙ ap (λ q. lists_at q r.seen_now) holds));
        unseated = still_unseated w;
      })

  -- the holder takes back the stop of u, and gives back its slot
  pub release_step : r.places id ≡ Holding → (u : ℕ) → is_in u r.seen_now ≡ true → (x : ℕ) → x ≡ 4
      → (hs : List (mathlib.Core.Option.Option (Option P))) → SlotChange s.homes hs u → LiesAt owner hs u true
      → (w : View) → Keeps v w → w.place ≡ v.place → w.posted ≡ without u v.posted → w.seen ≡ without u v.seen
      → StopRule owner n (record { words = set s.words (suc u) x; homes = hs; views = set s.views id w })
  release_step holds u seen x is hs changed lies w keeps placed posts sees =
      let mine = r.views id v at in
      let old = get_or-set_other s.words (suc u) 0 x 0 (λ e. omega arith) in
      let its = r.seen_in u seen in
      let lt = (r.posted_in u its.0).0 in record {
        places = r.places;
        posted_now = without u r.posted_now;
        seen_now = without u r.seen_now;
        word_count = length-set s.words (suc u) x ∙ r.word_count;
        slot_count = changed.count ∙ r.slot_count;
        view_count = subst (λ k. k ≤ n) (sym (length-set s.views id w)) r.view_count;
        holder = λ t e. old ∙ r.holder t e;
        turn = λ t e. r.turn t (sym old ∙ e);
        free = λ e. let z = sym old ∙ e in let h = r.holder id holds in absurd (omega arith);
        words = λ t below_n. ⊎_elim
            (λ (same : t ≡ u). ap (λ k. get_or (set s.words (suc u) x) (suc k) 0) same ∙ get_or-set_same s.words (suc u) x 0 (let c = r.word_count in omega arith) ∙ is
            ∙ sym (ap (λ q. word_of q (is_in t (without u r.posted_now))) (ap r.places same ∙ its.1) ∙ ap (word_of Parked) (ap (λ k. is_in k (without u r.posted_now)) same ∙ not_in_without u r.posted_now)))
            (λ (ne : t ≢ u). get_or-set_other s.words (suc u) (suc t) x 0 (λ e. ne (omega arith)) ∙ r.words t below_n ∙ ap (word_of (r.places t)) (sym (in_without t u r.posted_now ne)))
            (same_or_not t u);
        slots = λ t below_n. ⊎_elim
            (λ (same : t ≡ u). subst (λ b. LiesAt owner hs t b) (sym (ap (λ q. is_home q (is_in t (without u r.seen_now))) (ap r.places same ∙ its.1) ∙ ap (is_home Parked) (ap (λ k. is_in k (without u r.seen_now)) same ∙ not_in_without u r.seen_now))) (subst (λ k. LiesAt owner hs k true) (sym same) lies))
            (λ (ne : t ≢ u). subst (λ b. LiesAt owner hs t (is_home (r.places t) b)) (sym (in_without t u r.seen_now ne)) (lies_same owner hs s.homes t (is_home (r.places t) (is_in t r.seen_now)) (changed.others t ne) (r.slots t below_n)))
            (same_or_not t u);
        posted_in = λ k e. ⊎_elim
            (λ (same : k ≡ u). absurd (off (sym (ap (λ j. is_in j (without u r.posted_now)) same ∙ not_in_without u r.posted_now) ∙ e)))
            (λ (ne : k ≢ u). let h = r.posted_in k (sym (in_without k u r.posted_now ne) ∙ e) in (h.0, λ z. h.1 (sym old ∙ z)))
            (same_or_not k u);
        seen_in = λ k e. ⊎_elim
            (λ (same : k ≡ u). absurd (off (sym (ap (λ j. is_in j (without u r.seen_now)) same ∙ not_in_without u r.seen_now) ∙ e)))
            (λ (ne : k ≢ u). let h = r.seen_in k (sym (in_without k u r.seen_now ne) ∙ e) in (in_without k u r.posted_now ne ∙ h.0, h.1))
            (same_or_not k u);
        views = holder_views holds (without u r.posted_now) (without u r.seen_now) w keeps placed (posts ∙ ap (without u) (mine.posts ∙ ap (λ q. lists_at q r.posted_now) holds)) (sees ∙ ap (without u) (mine.sees ∙ ap (λ q. lists_at q r.seen_now) holds));
        unseated = still_unseated w;
      }

  outside_holds : (b : Bool) → word_of Outside b ≡ word_of Holding b
  outside_holds true = refl
  outside_holds false = refl

  -- the thread takes the free turn
  pub claim_step : r.places id ≡ Outside → get_or s.words 0 0 ≡ 0 → (w : View) → Keeps v w → w.place ≡ Holding → w.posted ≡ v.posted → w.seen ≡ v.seen
      → StopRule owner n (record { words = set s.words 0 (suc id); homes = s.homes; views = set s.views id w })
  claim_step was is_free w keeps placed posts sees =
      let mine = r.views id v at in
      let empty = r.free is_free in
      let here : get_or (set s.words 0 (suc id)) 0 0 ≡ suc id = get_or-set_same s.words 0 (suc id) 0 (let c = r.word_count in omega arith) in
      let nobody : (t : ℕ) → r.places t ≢ Holding = λ t e. let h = r.holder t e in omega arith in
      let not_here : (j : ℕ) → r.places j ≡ Outside → is_home (r.places j) (is_in j r.seen_now) ≡ is_home Holding (is_in j r.seen_now) = λ j e. ap (λ q. is_home q (is_in j r.seen_now)) e in record {
        places = put id Holding r.places;
        posted_now = r.posted_now;
        seen_now = r.seen_now;
        word_count = length-set s.words 0 (suc id) ∙ r.word_count;
        slot_count = r.slot_count;
        view_count = subst (λ k. k ≤ n) (sym (length-set s.views id w)) r.view_count;
        holder = λ t e. ⊎_elim (λ (same : t ≡ id). here ∙ ap suc (sym same)) (λ (ne : t ≢ id). absurd (nobody t (sym (put_else id Holding r.places t ne) ∙ e))) (same_or_not t id);
        turn = λ t e. let h = sym here ∙ e in put_here id Holding r.places t (omega arith);
        free = λ e. let h = sym here ∙ e in absurd (omega arith);
        words = λ t lt. get_or-set_other s.words 0 (suc t) (suc id) 0 (λ e. omega arith) ∙ r.words t lt
            ∙ ⊎_elim
            (λ (same : t ≡ id). ap (λ q. word_of q (is_in t r.posted_now)) (ap r.places same ∙ was) ∙ outside_holds (is_in t r.posted_now) ∙ ap (λ q. word_of q (is_in t r.posted_now)) (sym (put_here id Holding r.places t same)))
            (λ (ne : t ≢ id). ap (λ q. word_of q (is_in t r.posted_now)) (sym (put_else id Holding r.places t ne)))
            (same_or_not t id);
        slots = λ t lt. subst (λ b. LiesAt owner s.homes t b)
            (⊎_elim
            (λ (same : t ≡ id). ap (λ q. is_home q (is_in t r.seen_now)) (ap r.places same ∙ was) ∙ ap (λ q. is_home q (is_in t r.seen_now)) (sym (put_here id Holding r.places t same)))
            (λ (ne : t ≢ id). ap (λ q. is_home q (is_in t r.seen_now)) (sym (put_else id Holding r.places t ne)))
            (same_or_not t id))
            (r.slots t lt);
        posted_in = λ u e. absurd (off (sym (ap (is_in u) empty.0) ∙ e));
        seen_in = λ u e. absurd (off (sym (ap (is_in u) empty.1) ∙ e));
        views = fits_set (FitsView (put id Holding r.places) r.posted_now r.seen_now (length (set s.views id w))) s.views id w
            (λ j u ne e. let f = r.views j u e in let q = sym (put_else id Holding r.places j ne) in record {
              number = f.number;
              at = f.at ∙ q;
              posts = f.posts ∙ ap (λ k. lists_at k r.posted_now) q;
              sees = f.sees ∙ ap (λ k. lists_at k r.seen_now) q;
              gives = λ z. f.gives z ∙ sym (length-set s.views id w);
            })
            (let q = put_here id Holding r.places id refl in record {
              number = keeps.thread ∙ mine.number;
              at = placed ∙ sym q;
              posts = posts ∙ mine.posts ∙ lists_at_else (r.places id) r.posted_now (nobody id) ∙ sym (ap (λ k. lists_at k r.posted_now) q ∙ empty.0);
              sees = sees ∙ mine.sees ∙ lists_at_else (r.places id) r.seen_now (nobody id) ∙ sym (ap (λ k. lists_at k r.seen_now) q ∙ empty.1);
              gives = λ z. keeps.given ∙ mine.gives z ∙ sym (length-set s.views id w);
            });
        unseated = λ t le. let b = below s.views id v at in let c = length-set s.views id w in put_else id Holding r.places t (λ e. omega arith) ∙ r.unseated t (omega arith);
      }

  -- the holder gives the turn back, where no stop stands
  pub return_step : r.places id ≡ Holding → ((u : ℕ) → is_in u r.posted_now ≡ true → ⊥) → (w : View) → Keeps v w → w.place ≡ Outside → w.posted ≡ [] → w.seen ≡ []
      → StopRule owner n (record { words = set s.words 0 0; homes = s.homes; views = set s.views id w })
  return_step holds never w keeps placed posts sees =
      let mine = r.views id v at in
      let here : get_or (set s.words 0 0) 0 0 ≡ 0 = get_or-set_same s.words 0 0 0 (let c = r.word_count in omega arith) in
      let unseen : (u : ℕ) → is_in u r.seen_now ≡ true → ⊥ = λ u e. never u (r.seen_in u e).0 in record {
        places = put id Outside r.places;
        posted_now = [];
        seen_now = [];
        word_count = length-set s.words 0 0 ∙ r.word_count;
        slot_count = r.slot_count;
        view_count = subst (λ k. k ≤ n) (sym (length-set s.views id w)) r.view_count;
        holder = λ t e. ⊎_elim
            (λ (same : t ≡ id). let e' : Outside ≡ Holding = sym (put_here id Outside r.places t same) ∙ e in cc)
            (λ (ne : t ≢ id). absurd (alone holds t ne (sym (put_else id Outside r.places t ne) ∙ e)))
            (same_or_not t id);
        turn = λ t e. let h = sym here ∙ e in absurd (omega arith);
        free = λ e. (refl, refl);
        words = λ t lt. get_or-set_other s.words 0 (suc t) 0 0 (λ e. omega arith) ∙ r.words t lt ∙ ap (word_of (r.places t)) (none_in t r.posted_now never)
            ∙ ⊎_elim
            (λ (same : t ≡ id). ap (λ q. word_of q false) (ap r.places same ∙ holds) ∙ ap (λ q. word_of q false) (sym (put_here id Outside r.places t same)))
            (λ (ne : t ≢ id). ap (λ q. word_of q false) (sym (put_else id Outside r.places t ne)))
            (same_or_not t id);
        slots = λ t lt. subst (λ b. LiesAt owner s.homes t b)
            (ap (is_home (r.places t)) (none_in t r.seen_now unseen)
            ∙ ⊎_elim
            (λ (same : t ≡ id). ap (λ q. is_home q false) (ap r.places same ∙ holds) ∙ ap (λ q. is_home q false) (sym (put_here id Outside r.places t same)))
            (λ (ne : t ≢ id). ap (λ q. is_home q false) (sym (put_else id Outside r.places t ne)))
            (same_or_not t id))
            (r.slots t lt);
        posted_in = λ u e. absurd (off e);
        seen_in = λ u e. absurd (off e);
        views = fits_set (FitsView (put id Outside r.places) [] [] (length (set s.views id w))) s.views id w
            (λ j u ne e. let f = r.views j u e in let q = alone holds j ne in let p = sym (put_else id Outside r.places j ne) in record {
              number = f.number;
              at = f.at ∙ p;
              posts = f.posts ∙ lists_at_else (r.places j) r.posted_now q ∙ sym (lists_at_else (r.places j) [] q) ∙ ap (λ k. lists_at k []) p;
              sees = f.sees ∙ lists_at_else (r.places j) r.seen_now q ∙ sym (lists_at_else (r.places j) [] q) ∙ ap (λ k. lists_at k []) p;
              gives = λ z. f.gives z ∙ sym (length-set s.views id w);
            })
            (let q = put_here id Outside r.places id refl in record {
              number = keeps.thread ∙ mine.number;
              at = placed ∙ sym q;
              posts = posts ∙ sym (ap (λ k. lists_at k []) q);
              sees = sees ∙ sym (ap (λ k. lists_at k []) q);
              gives = λ z. keeps.given ∙ mine.gives z ∙ sym (length-set s.views id w);
            });
        unseated = λ t le. let b = below s.views id v at in let c = length-set s.views id w in put_else id Outside r.places t (λ e. omega arith) ∙ r.unseated t (omega arith);
      }
