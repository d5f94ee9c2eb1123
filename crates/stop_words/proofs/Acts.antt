-- A slot comes from home and takes its place in the hand, which is in the order of the numbers.
use Rattle.std.proofs.Common.{◌≡◌, ◌≢◌, ◌<◌, ◌≤◌, ◌+◌, ℕ, zero, suc, Bool, true, false, List, [], ◌∷◌, Option, option_map, set, ltb, refl, sym, ap, ◌∙◌, subst, ⊎_elim, lt-ltb, le-ltb, set-set, arith}
use Rattle.std.proofs.lemmas.List.{set_comm}
use Rattle.std.specs.Prelude.{if◌then◌else◌}
use mathlib.Core.Option.{some, none}
use lib.ListN.{get_elem?}
use Rattle.atomic_table.specs.Table.{Act, Valid, homes_after, carried_after}
use Rattle.atomic_table.specs.Table.Act.{takes, gives, chain}
use Rattle.atomic_table.proofs.Lists.{set_here, set_else, set_again}
use Rattle.stop_words.specs.Places.{is_in}
use Rattle.stop_words.specs.Hands.{label, labels, picked}
use Rattle.stop_words.proofs.Basics.{same_or_not, below, in_here, in_else, true_not_false}

module _ {S : Type 0} where
  abbrev ins_if : Bool → ℕ → S → ℕ × S → Act S → Act S
  ins_if true u y e a = takes u y
  ins_if false u y e a = chain gives (chain a (takes e.0 e.1))

  -- takes the slot u, and has it before the first greater one
  abbrev pub ins : ℕ → S → List (ℕ × S) → Act S
  ins u y [] = takes u y
  ins u y (e ∷ es) = ins_if (ltb u e.0) u y e (ins u y es)

  abbrev inserted_if : Bool → ℕ → S → ℕ × S → List (ℕ × S) → List (ℕ × S) → List (ℕ × S)
  inserted_if true u y e es more = (u, y) ∷ e ∷ es
  inserted_if false u y e es more = e ∷ more

  abbrev pub inserted : ℕ → S → List (ℕ × S) → List (ℕ × S)
  inserted u y [] = (u, y) ∷ []
  inserted u y (e ∷ es) = inserted_if (ltb u e.0) u y e es (inserted u y es)

  -- the slots are out, their numbers rise from a on, and u is none of them
  abbrev pub Out : List (mathlib.Core.Option.Option S) → ℕ → ℕ → List (ℕ × S) → Type 0
  Out hs u a [] = Unit {0}
  Out hs u a (e ∷ es) = (a ≤ e.0) × (get_elem? hs e.0 ≡ some none) × (e.0 ≢ u) × Out hs u (suc e.0) es

  pub out_weaker : (hs : List (mathlib.Core.Option.Option S)) (u a b : ℕ) (es : List (ℕ × S)) → a ≤ b → Out hs u b es → Out hs u a es
  out_weaker hs u a b [] le o = tt
  out_weaker hs u a b (e ∷ es) le o = let f = o.0 in (omega arith, o.1, o.2, o.3)

  pub out_set : (hs : List (mathlib.Core.Option.Option S)) (u a i : ℕ) (x : mathlib.Core.Option.Option S) (es : List (ℕ × S)) → i < a → Out hs u a es → Out (set hs i x) u a es
  out_set hs u a i x [] lt o = tt
  out_set hs u a i x (e ∷ es) lt o = let f = o.0 in (o.0, set_else hs i e.0 x (λ q. omega arith) ∙ o.1, o.2, out_set hs u (suc e.0) i x es (omega arith) o.3)

  abbrev pub Works : List (mathlib.Core.Option.Option S) → ℕ → List (ℕ × S) → Act S → List (ℕ × S) → Type 0
  Works hs u es a after = Valid hs es a × (homes_after hs es a ≡ set hs u none) × (carried_after es a ≡ after)

  -- the first slot goes home, the act works on the others, and the first comes again
  pub around : (hs : List (mathlib.Core.Option.Option S)) (u : ℕ) (e : ℕ × S) (es : List (ℕ × S)) (a : Act S) (after : List (ℕ × S)) → get_elem? hs e.0 ≡ some none → e.0 ≢ u
      → Works (set hs e.0 (some e.1)) u es a after → Works hs u (e ∷ es) (chain gives (chain a (takes e.0 e.1))) (e ∷ after)
  around hs u e es a after gone apart w =
      let hs1 = set hs e.0 (some e.1) in
      let back : get_elem? (homes_after hs1 es a) e.0 ≡ some (some e.1) = ap (λ h. get_elem? h e.0) w.1 ∙ set_else hs1 u e.0 none apart ∙ set_here hs e.0 (some e.1) (below hs e.0 none gone) in
      let same : set (homes_after hs1 es a) e.0 none ≡ set hs u none =
      ap (λ h. set h e.0 none) w.1 ∙ set_comm hs1 u e.0 none none (λ q. apart (sym q)) ∙ ap (λ h. set h u none) (set-set hs e.0 (some e.1) none ∙ set_again hs e.0 none gone) in
      ((tt, (w.0, back)), same, ap (λ l. e ∷ l) w.2)

  pub ins_works : (hs : List (mathlib.Core.Option.Option S)) (u a : ℕ) (y : S) (es : List (ℕ × S)) → Out hs u a es → get_elem? hs u ≡ some (some y) → Works hs u es (ins u y es) (inserted u y es)
  ins_works hs u a y [] o home = (home, refl, refl)
  ins_works hs u a y (e ∷ es) o home = by_test (ltb u e.0)
      (ins_works (set hs e.0 (some e.1)) u (suc e.0) y es (out_set hs u (suc e.0) e.0 (some e.1) es (omega arith) o.3) (set_else hs e.0 u (some e.1) (λ q. o.2 (sym q)) ∙ home))
    where
      by_test : (b : Bool) → Works (set hs e.0 (some e.1)) u es (ins u y es) (inserted u y es) → Works hs u (e ∷ es) (ins_if b u y e (ins u y es)) (inserted_if b u y e es (inserted u y es))
      by_test true w = (home, refl, refl)
      by_test false w = around hs u e es (ins u y es) (inserted u y es) o.1 o.2 w

-- a list made by a test
picked_true : (xs : List ℕ) (f : ℕ → Option ℕ) (a m : ℕ) → is_in a xs ≡ true → picked xs f a (suc m) ≡ (a, f a) ∷ picked xs f (suc a) m
picked_true xs f a m e = ap (λ b. if b then (a, f a) ∷ picked xs f (suc a) m else picked xs f (suc a) m) e

picked_false : (xs : List ℕ) (f : ℕ → Option ℕ) (a m : ℕ) → is_in a xs ≡ false → picked xs f a (suc m) ≡ picked xs f (suc a) m
picked_false xs f a m e = ap (λ b. if b then (a, f a) ∷ picked xs f (suc a) m else picked xs f (suc a) m) e

-- a number below a is not looked for
picked_skip : (u : ℕ) (xs : List ℕ) (f : ℕ → Option ℕ) (a m : ℕ) → u < a → picked (u ∷ xs) f a m ≡ picked xs f a m
picked_skip u xs f a zero lt = refl
picked_skip u xs f a (suc m) lt = ap (λ b. if b then (a, f a) ∷ picked (u ∷ xs) f (suc a) m else picked (u ∷ xs) f (suc a) m) (in_else a u xs (λ e. omega arith))
    ∙ ap (λ l. if is_in a xs then (a, f a) ∷ l else l) (picked_skip u xs f (suc a) m (omega arith))

module _ {P : Type 0} (owner : P → ℕ) where
  -- the first number of the hand is a at least
  abbrev From : ℕ → List (ℕ × Option P) → Type 0
  From a [] = Unit {0}
  From a (e ∷ es) = a ≤ e.0

  picked_from : (xs : List ℕ) (f : ℕ → Option ℕ) (a b m : ℕ) (es : List (ℕ × Option P)) → b ≤ a → labels owner es ≡ picked xs f a m → From b es
  picked_from xs f a b zero [] le e = tt
  picked_from xs f a b (suc m) [] le e = tt
  picked_from xs f a b zero (x ∷ es) le e = absurd (cc)
  picked_from xs f a b (suc m) (x ∷ es) le e = by_test (is_in a xs) refl (λ q. picked_from xs f (suc a) b m (x ∷ es) (omega arith) q)
    where
      by_test : (t : Bool) → is_in a xs ≡ t → (labels owner (x ∷ es) ≡ picked xs f (suc a) m → From b (x ∷ es)) → From b (x ∷ es)
      by_test true t ih = let q : label owner x ∷ labels owner es ≡ (a, f a) ∷ picked xs f (suc a) m = e ∙ picked_true xs f a m t in let h : label owner x ≡ (a, f a) = cc in let k : x.0 ≡ a = ap (λ y. y.0) h in omega arith
      by_test false t ih = ih (e ∙ picked_false xs f a m t)

  -- the hand that the labels show is out
  pub picked_out : (hs : List (mathlib.Core.Option.Option (Option P))) (u : ℕ) (xs : List ℕ) (f : ℕ → Option ℕ) (a m : ℕ) (es : List (ℕ × Option P))
      → ((k : ℕ) → k < a + m → is_in k xs ≡ true → get_elem? hs k ≡ some none) → is_in u xs ≡ false → labels owner es ≡ picked xs f a m → Out hs u a es
  picked_out hs u xs f a zero [] gone not_u e = tt
  picked_out hs u xs f a (suc m) [] gone not_u e = tt
  picked_out hs u xs f a zero (x ∷ es) gone not_u e = absurd (cc)
  picked_out hs u xs f a (suc m) (x ∷ es) gone not_u e = by_test (is_in a xs) refl (λ ys q. picked_out hs u xs f (suc a) m ys (λ j lt. gone j (omega arith)) not_u q)
    where
      by_test : (t : Bool) → is_in a xs ≡ t → ((ys : List (ℕ × Option P)) → labels owner ys ≡ picked xs f (suc a) m → Out hs u (suc a) ys) → Out hs u a (x ∷ es)
      by_test true t ih =
          let q : label owner x ∷ labels owner es ≡ (a, f a) ∷ picked xs f (suc a) m = e ∙ picked_true xs f a m t in
          let h : label owner x ≡ (a, f a) = cc in
          let rest : labels owner es ≡ picked xs f (suc a) m = cc in
          let k : x.0 ≡ a = ap (λ y. y.0) h in
          let apart : x.0 ≢ u = λ z. true_not_false (sym (ap (λ j. is_in j xs) (sym z ∙ k) ∙ t) ∙ not_u) in (
            omega arith,
            ap (get_elem? hs) k ∙ gone a (omega arith) t,
            apart,
            subst (λ j. Out hs u (suc j) es) (sym k) (ih es rest),
          )
      by_test false t ih = out_weaker hs u a (suc a) (x ∷ es) (omega arith) (ih (x ∷ es) (e ∙ picked_false xs f a m t))

  -- the hand with one more slot shows one more label
  pub picked_more : (u : ℕ) (y : Option P) (xs : List ℕ) (f : ℕ → Option ℕ) (a m : ℕ) (es : List (ℕ × Option P))
      → a ≤ u → u < a + m → is_in u xs ≡ false → option_map owner y ≡ f u → labels owner es ≡ picked xs f a m → labels owner (inserted u y es) ≡ picked (u ∷ xs) f a m
  picked_more u y xs f a zero es ge lt not_u is e = absurd (omega arith)
  picked_more u y xs f a (suc m) es ge lt not_u is e = ⊎_elim here (λ apart. after (is_in a xs) refl apart (λ ys q. picked_more u y xs f (suc a) m ys (omega arith) (omega arith) not_u is q) es e) (same_or_not u a)
    where
      first : (es : List (ℕ × Option P)) → From (suc u) es → labels owner (inserted u y es) ≡ (u, option_map owner y) ∷ labels owner es
      first [] h = refl
      first (x ∷ es) h = ap (λ b. labels owner (inserted_if b u y x es (inserted u y es))) (lt-ltb u x.0 (omega arith))

      here : u ≡ a → labels owner (inserted u y es) ≡ picked (u ∷ xs) f a (suc m)
      here same =
          let rest : labels owner es ≡ picked xs f (suc a) m = e ∙ picked_false xs f a m (sym (ap (λ k. is_in k xs) same) ∙ not_u) in
          first es (picked_from xs f (suc a) (suc u) m es (omega arith) rest) ∙ (λ i. (same i, (is ∙ ap f same) i) ∷ (rest ∙ sym (picked_skip u xs f (suc a) m (omega arith))) i) ∙ sym (picked_true (u ∷ xs) f a m (in_here a u xs (sym same)))

      after : (t : Bool) → is_in a xs ≡ t → u ≢ a → ((ys : List (ℕ × Option P)) → labels owner ys ≡ picked xs f (suc a) m → labels owner (inserted u y ys) ≡ picked (u ∷ xs) f (suc a) m)
          → (ys : List (ℕ × Option P)) → labels owner ys ≡ picked xs f a (suc m) → labels owner (inserted u y ys) ≡ picked (u ∷ xs) f a (suc m)
      after false t apart ih ys e = ih ys (e ∙ picked_false xs f a m t) ∙ sym (picked_false (u ∷ xs) f a m (in_else a u xs (λ z. apart (sym z)) ∙ t))
      after true t apart ih [] e = let q : labels owner [] ≡ (a, f a) ∷ picked xs f (suc a) m = e ∙ picked_true xs f a m t in absurd (cc)
      after true t apart ih (x ∷ ys) e =
          let q : label owner x ∷ labels owner ys ≡ (a, f a) ∷ picked xs f (suc a) m = e ∙ picked_true xs f a m t in
          let h : label owner x ≡ (a, f a) = cc in
          let rest : labels owner ys ≡ picked xs f (suc a) m = cc in
          let k : x.0 ≡ a = ap (λ z. z.0) h in
          ap (λ b. labels owner (inserted_if b u y x ys (inserted u y ys))) (le-ltb u x.0 (omega arith))
          ∙ (λ i. h i ∷ ih ys rest i)
          ∙ sym (picked_true (u ∷ xs) f a m (in_else a u xs (λ z. apart (sym z)) ∙ t))
