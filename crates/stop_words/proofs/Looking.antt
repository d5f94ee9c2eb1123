-- Looks, one after the other.
use Rattle.std.proofs.Common.{◌≡◌, ◌≢◌, ◌⊎◌, ◌<◌, ◌≤◌, ◌+◌, ◌-◌, ℕ, suc, Bool, true, false, List, ◌∷◌, refl, sym, ap, ◌∙◌, inl, inr, ⊎_elim, lt-ltb, le-ltb, arith}
use Rattle.std.specs.Prelude.{if◌then◌else◌}
use Rattle.heap_terms.specs.declared.steps.WordStep.TheVariants.{Look}
use Rattle.heap_terms.specs.declared.steps.StepAnswer.TheVariants as answered
use Rattle.heap_terms.specs.WordMachine.{has, answer}
use Rattle.stop_words.specs.declared.view.View.{View}
use Rattle.stop_words.specs.Places.{is_in}
use Rattle.stop_words.specs.Views.{view_after, seeing, counted, others_below}
use Rattle.stop_words.specs.Replies.{is_done}
use Rattle.stop_words.specs.Gathers.{OnlyLooked, AllSeen, Unseen}
use Rattle.stop_words.specs.Looks.{SeenTo, StoppedAt}
use Rattle.stop_words.proofs.Basics.{same_or_not, le_or_lt, in_here, in_else, true_not_false}

pub no_look : (v : View) → OnlyLooked v v
no_look v = record { thread = refl; place = refl; posted = refl; given = refl; more = λ u e. e }

pub looks_on : (u v w : View) → OnlyLooked u v → OnlyLooked v w → OnlyLooked u w
looks_on u v w a b = record { thread = b.thread ∙ a.thread; place = b.place ∙ a.place; posted = b.posted ∙ a.posted; given = b.given ∙ a.given; more = λ x e. b.more x (a.more x e) }

-- one look
pub record OneLook (u : ℕ) (v w : View) : Type 0 where
  pub looked : OnlyLooked v w
  pub steps : w.steps ≡ v.steps + 1
  pub word : (w.word ≡ suc u) × (w.left ≡ w.found)
  pub seen : has 4 w.found ≡ true → is_in u w.seen ≡ true

still : (u x : ℕ) (us : List ℕ) → is_in x us ≡ true → is_in x (u ∷ us) ≡ true
still u x us e = ⊎_elim (λ (h : x ≡ u). in_here x u us h) (λ (h : x ≢ u). in_else x u us h ∙ e) (same_or_not x u)

by_tests : (u : ℕ) (v w : View) (b c : Bool) → has 4 w.found ≡ b → is_in u v.seen ≡ c → w ≡ counted (if b then seeing c u v else v) (suc u) w.found w.found → OneLook u v w
by_tests u v w true true b_is c_is e =
    let s = ap (λ (k : View). k.seen) e in record {
      looked = record { thread = ap (λ (k : View). k.thread) e; place = ap (λ (k : View). k.place) e; posted = ap (λ (k : View). k.posted) e; given = ap (λ (k : View). k.given) e; more = λ x h. ap (is_in x) s ∙ h };
      steps = ap (λ (k : View). k.steps) e;
      word = (ap (λ (k : View). k.word) e, ap (λ (k : View). k.left) e);
      seen = λ _. ap (is_in u) s ∙ c_is;
    }
by_tests u v w true false b_is c_is e =
    let s = ap (λ (k : View). k.seen) e in record {
      looked = record { thread = ap (λ (k : View). k.thread) e; place = ap (λ (k : View). k.place) e; posted = ap (λ (k : View). k.posted) e; given = ap (λ (k : View). k.given) e; more = λ x h. ap (is_in x) s ∙ still u x v.seen h };
      steps = ap (λ (k : View). k.steps) e;
      word = (ap (λ (k : View). k.word) e, ap (λ (k : View). k.left) e);
      seen = λ _. ap (is_in u) s ∙ in_here u u v.seen refl;
    }
by_tests u v w false c b_is c_is e =
    let s = ap (λ (k : View). k.seen) e in record {
      looked = record { thread = ap (λ (k : View). k.thread) e; place = ap (λ (k : View). k.place) e; posted = ap (λ (k : View). k.posted) e; given = ap (λ (k : View). k.given) e; more = λ x h. ap (is_in x) s ∙ h };
      steps = ap (λ (k : View). k.steps) e;
      word = (ap (λ (k : View). k.word) e, ap (λ (k : View). k.left) e);
      seen = λ h. absurd (true_not_false (sym h ∙ b_is));
    }

pub one_look : (u : ℕ) (v w : View) → w ≡ view_after (Look u) w.found v → OneLook u v w
one_look u v w e = by_tests u v w (has 4 w.found) (is_in u v.seen) refl refl e

done_is : (b : Bool) → is_done (if b then answered.Went else answered.NotYet) ≡ b
done_is true = refl
done_is false = refl

-- what `look` answered
pub found_parked : (u : ℕ) (w : View) (b : Bool) → b ≡ is_done (answer (Look u) w.found) → has 4 w.found ≡ b
found_parked u w b e = sym (e ∙ done_is (has 4 w.found))

pub none_yet : (a : ℕ) (v : View) → SeenTo a a v v
none_yet a v = record { looked = no_look v; seen_all = λ u lo hi. absurd (omega arith); steps = omega arith }

pub one_more : (a k : ℕ) (u v w : View) → a ≤ k → SeenTo a k u v → w ≡ view_after (Look k) w.found v → has 4 w.found ≡ true → SeenTo a (k + 1) u w
one_more a k u v w le s e parked =
    let o = one_look k v w e in record {
      looked = looks_on u v w s.looked o.looked;
      seen_all = λ x lo hi. ⊎_elim (λ (same : x ≡ k). ap (λ j. is_in j w.seen) same ∙ o.seen parked) (λ (ne : x ≢ k). o.looked.more x (s.seen_all x lo (omega arith))) (same_or_not x k);
      steps = let p = o.steps in let q = s.steps in omega arith;
    }

pub stops : (a b k : ℕ) (u v w : View) → a ≤ k → k < b → SeenTo a k u v → w ≡ view_after (Look k) w.found v → has 4 w.found ≡ false → StoppedAt a b k u w
stops a b k u v w le lt s e parked =
    let o = one_look k v w e in record {
      looked = looks_on u v w s.looked o.looked;
      range = (le, lt);
      seen_below = λ x lo hi. o.looked.more x (s.seen_all x lo hi);
      latest = (o.word.0, parked, o.word.1);
      steps = let p = o.steps in let q = s.steps in omega arith;
    }

others_to : (t k : ℕ) → k ≤ t → others_below t k ≡ k
others_to t k le = ap (λ b. if b then k - 1 else k) (le-ltb t k le)

others_past : (t k : ℕ) → t < k → others_below t k ≡ k - 1
others_past t k lt = ap (λ b. if b then k - 1 else k) (lt-ltb t k lt)

-- the threads below t and those above it
pub all_seen : (t n : ℕ) (u v w : View) → t < n → u.thread ≡ t → SeenTo 0 t u v → SeenTo (t + 1) n v w → AllSeen n u w
all_seen t n u v w lt is below above = record {
  looked = looks_on u v w below.looked above.looked;
  seen_all = λ k k_lt apart.
      let number : w.thread ≡ t = above.looked.thread ∙ below.looked.thread ∙ is in
      ⊎_elim
      (λ (lower : k < t). above.looked.more k (below.seen_all k (omega arith) lower))
      (λ (higher : t ≤ k). let ne : k ≢ t = λ e. apart (e ∙ sym number) in above.seen_all k (omega arith) k_lt)
      (lower_or k t);
  steps = let p = below.steps in let q = above.steps in let o = others_past u.thread n (omega arith) in omega arith;
}
  where
    lower_or : (a b : ℕ) → (a < b) ⊎ (b ≤ a)
    lower_or a b = ⊎_elim (λ (h : b ≤ a). inr h) (λ (h : a < b). inl h) (le_or_lt b a)

pub unseen_below : (t n k : ℕ) (u w : View) → t < n → u.thread ≡ t → StoppedAt 0 t k u w → Unseen n k u w
unseen_below t n k u w lt is s =
    let r = s.range in record {
      looked = s.looked;
      other = (omega arith, λ e. omega arith);
      seen_below = λ x hi _. s.seen_below x (omega arith) hi;
      latest = s.latest;
      steps = let q = s.steps in let o = others_to u.thread (k + 1) (omega arith) in omega arith;
    }

pub unseen_above : (t n k : ℕ) (u v w : View) → t < n → u.thread ≡ t → SeenTo 0 t u v → StoppedAt (t + 1) n k v w → Unseen n k u w
unseen_above t n k u v w lt is below s =
    let r = s.range in record {
      looked = looks_on u v w below.looked s.looked;
      other = (omega arith, λ e. omega arith);
      seen_below = λ x hi apart. ⊎_elim
          (λ (le : t ≤ x). let ne : x ≢ t = λ e. apart (e ∙ sym is) in s.seen_below x (omega arith) hi)
          (λ (lower : x < t). s.looked.more x (below.seen_all x (omega arith) lower))
          (le_or_lt t x);
      latest = s.latest;
      steps = let p = below.steps in let q = s.steps in let o = others_past u.thread (k + 1) (omega arith) in omega arith;
    }
