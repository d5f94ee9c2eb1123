-- Stops taken back, one after the other.
use Rattle.std.proofs.Common.{◌≡◌, ◌≢◌, ◌⊎◌, ◌<◌, ◌≤◌, ◌+◌, ℕ, suc, true, false, List, [], ◌∷◌, Option, None, Some, refl, sym, ap, ◌∙◌, inl, inr, ⊎_elim, bit_and, add-one, arith}
use Rattle.atomic_table.specs.Table.{Me, step, rest, Allows}
use mathlib.Core.Option.{none}
use Rattle.heap_terms.specs.declared.steps.WordStep.TheVariants.{Release, Return}
use Rattle.stop_words.specs.declared.view.Place.TheVariants.{Holding}
use Rattle.stop_words.specs.declared.view.View.{View}
use Rattle.stop_words.specs.Places.{is_in, without, lists_at}
use Rattle.stop_words.specs.Views.{view_after}
use Rattle.stop_words.specs.Hands.{labels, hand_at}
use Rattle.stop_words.specs.Rule.{StopRule}
use Rattle.stop_words.specs.Plays.{Released}
use Rattle.stop_words.specs.Gathers.{PutBack, GaveBack}
use Rattle.stop_words.proofs.Basics.{same_or_not, le_or_lt, not_in_without, in_without, true_not_false}
use Rattle.stop_words.proofs.Moves.{releases}
use Rattle.stop_words.proofs.SeatFacts.{Facts, head_of}

pub none_back : (a : ℕ) (v : View) → PutBack a a v v
none_back a v = record { thread = refl; place = refl; given = refl; posted = λ u h. refl; seen = λ u h. refl; gone = λ u lo hi. absurd (omega arith); steps = omega arith; latest = λ lt. absurd (omega arith) }

outside : (a k u : ℕ) → (u < a) ⊎ (k + 1 ≤ u) → a ≤ k → ((u < a) ⊎ (k ≤ u)) × (u ≢ k)
outside a k u h le = ⊎_elim (λ (lo : u < a). (inl lo, λ e. omega arith)) (λ (hi : k + 1 ≤ u). (inr (omega arith), λ e. omega arith)) h

pub one_back : (a k : ℕ) (v w x : View) → a ≤ k → PutBack a k v w → x ≡ view_after (Release k) 6 w → PutBack a (k + 1) v x
one_back a k v w x le b e =
    let posts = ap (λ (y : View). y.posted) e in
    let sees = ap (λ (y : View). y.seen) e in record {
      thread = ap (λ (y : View). y.thread) e ∙ b.thread;
      place = ap (λ (y : View). y.place) e ∙ b.place;
      given = ap (λ (y : View). y.given) e ∙ b.given;
      posted = λ u h. let o = outside a k u h le in ap (is_in u) posts ∙ in_without u k w.posted o.1 ∙ b.posted u o.0;
      seen = λ u h. let o = outside a k u h le in ap (is_in u) sees ∙ in_without u k w.seen o.1 ∙ b.seen u o.0;
      gone = λ u lo hi. ap (is_in u) posts ∙ ⊎_elim
          (λ (same : u ≡ k). ap (λ j. is_in j (without k w.posted)) same ∙ not_in_without k w.posted)
          (λ (ne : u ≢ k). in_without u k w.posted ne ∙ b.gone u lo (omega arith))
          (same_or_not u k);
      steps = let s = ap (λ (y : View). y.steps) e in let p = b.steps in omega arith;
      latest = λ lt. (ap (λ (y : View). y.word) e ∙ sym (add-one k), ap (λ (y : View). y.found) e, ap (λ (y : View). y.left) e);
    }

-- all others were released, those below t and those above it
pub all_back : (t n : ℕ) (v w x : View) → t < n → v.thread ≡ t → PutBack 0 t v w → PutBack (t + 1) n w x → (u : ℕ) → u < n → u ≢ x.thread → is_in u x.posted ≡ false
all_back t n v w x lt is below above u hi apart =
    let number : x.thread ≡ t = above.thread ∙ below.thread ∙ is in
    ⊎_elim
    (λ (le : t ≤ u). let ne : u ≢ t = λ e. apart (e ∙ sym number) in above.gone u (omega arith) hi)
    (λ (lo : u < t). above.posted u (inl (omega arith)) ∙ below.gone u (omega arith) lo)
    (le_or_lt t u)

pub gives_back : (t n r : ℕ) (v w x y : View) → t < n → v.thread ≡ t → PutBack 0 t v w → PutBack (t + 1) n w x → y ≡ view_after Return r x → r ≡ suc x.thread → GaveBack n v y
gives_back t n r v w x y lt is below above e r_is = record {
  thread = ap (λ (k : View). k.thread) e ∙ above.thread ∙ below.thread;
  place = ap (λ (k : View). k.place) e;
  lists = (ap (λ (k : View). k.posted) e, ap (λ (k : View). k.seen) e);
  given = ap (λ (k : View). k.given) e ∙ above.given ∙ below.given;
  steps = let s = ap (λ (k : View). k.steps) e in let p = below.steps in let q = above.steps in omega arith;
  latest = (ap (λ (k : View). k.word) e, ap (λ (k : View). k.found) e ∙ r_is ∙ ap suc (above.thread ∙ below.thread), ap (λ (k : View). k.left) e);
}

module _ {P : Type 0} (owner : P → ℕ) where
  -- the step that takes a stop back, with the parcel in the slot
  pub releases_after : (n slots id i : ℕ) (old m : Me (Option P) View) (q : P) (u : ℕ) → m ≡ (old.0, (u, Some q) ∷ rest old.1) → i ≡ suc u → old.0.place ≡ Holding → is_in u old.0.seen ≡ true → owner q ≡ u
      → Allows (StopRule owner n) slots id m i (λ x. bit_and x 18446744073709551613) (Released owner (step slots i 18446744073709551613 0 none) m)
  releases_after n slots id i old m q u e at_i placed seen owned =
      releases owner n slots id i u m q (rest old.1) (ap (λ (k : Me (Option P) View). k.1) e) at_i (ap (λ (k : Me (Option P) View). k.0.place) e ∙ placed) (ap (λ (k : Me (Option P) View). is_in u k.0.seen) e ∙ seen) owned

  pub released_view : (u r : ℕ) (old m new : Me (Option P) View) (x : Option P) → m ≡ (old.0, (u, x) ∷ rest old.1) → new.0 ≡ view_after (Release u) r m.0 → r ≡ 6 → new.0 ≡ view_after (Release u) 6 old.0
  released_view u r old m new x e view is = view ∙ (λ j. view_after (Release u) (is j) (ap (λ (k : Me (Option P) View). k.0) e j))

  pub released_hand : (u : ℕ) (o : Option ℕ) (old m new : Me (Option P) View) (x : Option P) (tail : List (ℕ × Option ℕ)) → m ≡ (old.0, (u, x) ∷ rest old.1) → new.1 ≡ rest m.1 → labels owner old.1 ≡ (u, o) ∷ tail → labels owner new.1 ≡ tail
  released_hand u o old m new x tail e gave shows = ap (labels owner) (gave ∙ ap (λ (k : Me (Option P) View). rest k.1) e) ∙ (head_of owner u o tail old.1 shows).3

  -- what the seat keeps once it gave the turn back
  pub after_release : (thread_no : ℕ) (slots now n : ℕ) (m : Me (Option P) View) (v : View) → thread_no < now → v.thread ≡ thread_no → GaveBack n v m.0 → labels owner m.1 ≡ (thread_no, None) ∷ [] → Facts owner thread_no false now m
  after_release thread_no slots now n m v lt is g shows = record {
    number = g.thread ∙ is;
    in_range = lt;
    idle = (g.lists.0 ∙ sym (λ j. lists_at (g.place j) (g.lists.0 j)), g.lists.1 ∙ sym (λ j. lists_at (g.place j) (g.lists.1 j)));
    alone = ap (is_in m.0.thread) g.lists.1;
    hand = shows ∙ sym (λ j. hand_at (g.place j) ((g.thread ∙ is) j) m.0.seen false now);
    gathered = λ z. absurd (true_not_false (sym z));
  }
