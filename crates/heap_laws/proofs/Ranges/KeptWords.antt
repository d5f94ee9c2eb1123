-- The words that a pass keeps are those of the objects that its record lists as moved or pinned.
use Rattle.std.proofs.Common.{◌≡◌, ◌≢◌, ℕ, suc, ◌+◌, ◌<◌, List, [], ◌∷◌, length, get_or, Option, Some, None, Bool, true, false, inl, inr, refl, sym, ◌∙◌, subst, ap, arith}
use Rattle.std.proofs.lemmas.Bool.{cases_Bool, cases_lt, and_parts, eqb-true, ne_eqb, eq-eqb, false≢true}
use Rattle.std.proofs.lemmas.List.{get_or_past}
use Rattle.std.proofs.lemmas.List.Elements.{All-head, All-tail}
use Rattle.std.proofs.lemmas.List.Folds.{list_any_none}
use Rattle.std.proofs.lemmas.List.Sums.{sum_by-cons}
use Rattle.std.specs.List.{All, AllPairs, list_any, range_with_len, sum_by}
use Rattle.std.specs.Prelude.{if◌then◌else◌, ◌==◌, ◌||◌}
use Rattle.heap_terms.specs.declared.events.PassRecord.{PassRecord}
use Rattle.heap_terms.specs.declared.events.PinAt.{PinAt}
use Rattle.heap_terms.specs.declared.events.Placing.{Placing}
use Rattle.heap_terms.specs.Generations.{is_of, has_generation, words_taken}
use Rattle.heap_terms.specs.Heap.{NamedHeap, object_at}
use Rattle.heap_terms.specs.Objects.{Object, words_of_object}
use Rattle.heap_terms.specs.Passes.{IsPass, is_listed_move, is_listed_pin, remains, remains_at}
use Rattle.heap_terms.specs.Roots.{is_hit, is_pinned}
use Rattle.heap_laws.proofs.Lists.Sums.{sum_same, sum_change}
use Rattle.heap_laws.proofs.Ranges.GenerationWords.{kept_in, kept_words, sum_both, sum_nothing}

-- a sum over the numbers that a list names, each once, is one over the list
listed_sum : {X : Type 0} (name_of : X → ℕ) (f : ℕ → ℕ) (n : ℕ) (xs : List X) → All (λ x. name_of x < n) xs → AllPairs (λ x y. name_of x ≢ name_of y) xs →
    sum_by (λ u. if list_any (λ x. name_of x == u) xs then f u else 0) (range_with_len 0 n) ≡ sum_by (λ x. f (name_of x)) xs
listed_sum name_of f n [] low once = sum_nothing 0 n
listed_sum {X = X} name_of f n (x ∷ xs) low once =
    let rest = listed_sum name_of f n xs (All-tail (λ y. name_of y < n) x xs low) (λ i j d before inside. once (suc i) (suc j) d (omega arith) (omega arith)) in
    let t = name_of x in
    let old : ℕ → ℕ = λ u. if list_any (λ y. name_of y == u) xs then f u else 0 in
    let new : ℕ → ℕ = λ u. if list_any (λ y. name_of y == u) (x ∷ xs) then f u else 0 in
    let below : t < n = All-head (λ y. name_of y < n) x xs low in
    let apart : All (λ y. (name_of y == t) ≡ false) xs = λ j d inside. ne_eqb (name_of (get_or xs j d)) t (λ e. once 0 (suc j) d (omega arith) (omega arith) (sym e)) in
    let change = sum_change old new t 0 n (omega arith) (omega arith) (λ u other. let differs : (t == u) ≡ false = ne_eqb t u (λ e. other (sym e)) in rw differs refl) in
    let none : old t ≡ 0 = rw (list_any_none (λ y. name_of y == t) xs apart) refl in
    let one : new t ≡ f t = rw (eq-eqb t t refl) refl in
    omega (arith, sum_by-cons (λ y. f (name_of y)) x xs)

-- what holds of all names of a list holds of one that it names
listed_has : {X : Type 0} (name_of : X → ℕ) (Q : ℕ → Type 0) (xs : List X) (u : ℕ) → All (λ x. Q (name_of x)) xs → list_any (λ x. name_of x == u) xs ≡ true → Q u
listed_has name_of Q [] u all e = absurd (false≢true e)
listed_has name_of Q (x ∷ xs) u all e = elim (cases_Bool (name_of x == u)) [
  | inl here ↦ subst Q (eqb-true (name_of x) u here) (All-head (λ y. Q (name_of y)) x xs all)
  | inr other ↦ (let later : list_any (λ y. name_of y == u) xs ≡ true = rw other at e in listed_has name_of Q xs u (All-tail (λ y. Q (name_of y)) x xs all) later)
]

-- a name of a generation is one of the heap's
of_below : (a : NamedHeap) (g name : ℕ) → is_of a g name ≡ true → name < length a.objects
of_below a g name e = elim (cases_lt name (length a.objects)) [
  | inl l ↦ l
  | inr past ↦ absurd (false≢true (sym (ap (has_generation g) (get_or_past a.objects name None past)) ∙ e))
]

either_case : (m q : Bool) (w : ℕ) → (m ≡ true → q ≡ true → ⊥) → (if m || q then w else 0) ≡ (if m then w else 0) + (if q then w else 0)
either_case true true w apart = absurd (apart refl refl)
either_case true false w apart = omega arith
either_case false true w apart = omega arith
either_case false false w apart = refl

neither_case : (m q : Bool) → 0 ≡ (if m then 0 else 0) + (if q then 0 else 0)
neither_case true true = refl
neither_case true false = refl
neither_case false true = refl
neither_case false false = refl

not_true : (b : Bool) → (b ≡ true → ⊥) → b ≡ false
not_true true h = absurd (h refl)
not_true false h = refl

same_Some : (x y : Object) → Some x ≡ Some y → x ≡ y
same_Some x y e = cc

module _ (a : NamedHeap) (g h : ℕ) (r : PassRecord) (pass : IsPass a g h r) where
  moved_own : (u : ℕ) → is_listed_move r u ≡ true → (is_of a g u ≡ true) × (is_pinned a g u ≡ false)
  moved_own u e = listed_has (λ (m : Placing). m.name) (λ x. (is_of a g x ≡ true) × (is_pinned a g x ≡ false)) r.moves u pass.movable e

  pinned_all : All (λ (q : PinAt). is_pinned a g q.name ≡ true) r.pins
  pinned_all = λ i d inside. let p = pass.pins.pinned i d inside in p.3

  pinned_own : (u : ℕ) → is_listed_pin r u ≡ true → is_pinned a g u ≡ true
  pinned_own u e = listed_has (λ (q : PinAt). q.name) (λ x. is_pinned a g x ≡ true) r.pins u pinned_all e

  pinned_of : (u : ℕ) → is_pinned a g u ≡ true → is_of a g u ≡ true
  pinned_of u e = (and_parts (is_of a g u) (is_hit a u) e).0

  -- no name is pinned twice
  pins_once : AllPairs (λ (q s : PinAt). q.name ≢ s.name) r.pins
  pins_once i j d before inside e =
      let one = pass.pins.pinned i d (omega arith) in
      let two = pass.pins.pinned j d inside in
      let same : one.0 ≡ two.0 = same_Some one.0 two.0 (sym one.1 ∙ ap (object_at a.objects) e ∙ two.1) in
      let places : one.0.place ≡ two.0.place = ap (λ (o : Object). o.place) same in
      let low = pass.pins.ascending i j d before inside in
      let first = one.2 in
      let second = two.2 in
      omega arith

  one_kept : (u : ℕ) (o : Option Object) → object_at a.objects u ≡ o →
      kept_in a r u o ≡ (if is_listed_move r u then words_taken o else 0) + (if is_listed_pin r u then words_taken o else 0)
  one_kept u None at = neither_case (is_listed_move r u) (is_listed_pin r u)
  one_kept u (Some o) at = elim (cases_Bool (o.generation == r.generation)) [
    | inl own ↦ (
        let live : remains a r u ≡ (is_listed_move r u || is_listed_pin r u) = ap (remains_at r u) at ∙ rw own refl in
        rw (own, live) (either_case (is_listed_move r u) (is_listed_pin r u) (words_of_object o) (λ m q. false≢true (sym (moved_own u m).1 ∙ pinned_own u q))))
    | inr other ↦ (
        let foreign : is_of a g u ≡ true → ⊥ = λ e. false≢true (sym other ∙ ap (λ (k : ℕ). o.generation == k) pass.generation ∙ sym (ap (has_generation g) at) ∙ e) in
        let no_move : is_listed_move r u ≡ false = not_true (is_listed_move r u) (λ m. foreign (moved_own u m).0) in
        let no_pin : is_listed_pin r u ≡ false = not_true (is_listed_pin r u) (λ q. foreign (pinned_of u (pinned_own u q))) in
        rw (other, no_move, no_pin) refl)
  ]

  pub kept-listed : kept_words a r
      ≡ sum_by (λ (m : Placing). words_taken (object_at a.objects m.name)) r.moves + sum_by (λ (q : PinAt). words_taken (object_at a.objects q.name)) r.pins
  kept-listed =
      let n = length a.objects in
      let words : ℕ → ℕ = λ u. words_taken (object_at a.objects u) in
      let moved : ℕ → ℕ = λ u. if is_listed_move r u then words u else 0 in
      let pinned : ℕ → ℕ = λ u. if is_listed_pin r u then words u else 0 in
      let moves = listed_sum (λ (m : Placing). m.name) words n r.moves (λ i d inside. of_below a g _ (pass.movable i d inside).0) pass.once in
      let pins = listed_sum (λ (q : PinAt). q.name) words n r.pins (λ i d inside. of_below a g _ (pinned_of _ (pinned_all i d inside))) pins_once in
      sum_same (λ u. moved u + pinned u) (λ u. kept_in a r u (object_at a.objects u)) 0 n (λ u low high. one_kept u (object_at a.objects u) refl)
      ∙ sum_both moved pinned 0 n
      ∙ ap (λ (k : ℕ). k + sum_by pinned (range_with_len 0 n)) moves
      ∙ ap (λ (k : ℕ). sum_by (λ (m : Placing). words m.name) r.moves + k) pins
