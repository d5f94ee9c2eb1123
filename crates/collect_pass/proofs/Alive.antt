-- Where each object is live nothing is culled, broken or queued, and each object remains as it is.
use Rattle.std.proofs.Common.{◌≡◌, ℕ, zero, suc, ◌<◌, List, [], ◌∷◌, length, map, filter, get_or, Option, Some, None, IsSome, Bool, true, false, All, inl, inr, refl, sym, ◌∙◌, ap, subst, nat_eq, arith}
use Rattle.std.proofs.lemmas.Bool.{cases_lt, false≢true, eq-eqb, eqb-true}
use Rattle.std.proofs.lemmas.List.{get_or-map, get_or_past}
use Rattle.std.proofs.lemmas.List.Concat.{flat_map-cons}
use Rattle.std.proofs.lemmas.List.Elements.{All-head, All-tail, All-weaker, filter_passes}
use Rattle.std.proofs.lemmas.List.Folds.{list_any_at}
use Rattle.std.proofs.lemmas.List.FromFn.{get_or-range_with_len, length-range_with_len}
use Rattle.std.proofs.lemmas.List.Kept.{AllPairs-filter}
use Rattle.std.proofs.lemmas.Map.Views.{any-filter_same}
use Rattle.std.specs.List.{list_any}
use Rattle.std.specs.Prelude.{◌≢◌, AllPairs, flat_map, not}
use Rattle.heap_terms.specs.declared.cells.Value.{Value}
use Rattle.heap_terms.specs.declared.cells.Value.TheVariants.{Fix, Nil, Unbound, Ref}
use Rattle.heap_terms.specs.declared.kinds.Weakness.{Weakness}
use Rattle.heap_terms.specs.declared.kinds.Weakness.TheVariants as weaknesses
use Rattle.heap_terms.specs.Generations.{names}
use Rattle.heap_terms.specs.Heap.{NamedHeap, object_at, zero_value}
use Rattle.heap_terms.specs.Live.{is_live, AreLive, Keeps, KeepsSides}
use Rattle.heap_terms.specs.Living.{AreLiving, HoldsLiving, IsLiving, IsLivingOrUnbound}
use Rattle.heap_terms.specs.Objects.{Object, Contents, ConsOf, VectorOf, InstanceOf, ClosureOf, WordsOf, WeakTo, TableOf}
use Rattle.heap_terms.specs.Sound.{IsSound}
use Rattle.heap_terms.specs.Survival.{surviving, keeps_pair, is_kept, culled_from, culls_in, breaks, breaks_in}
use Rattle.pass_laws.proofs.LiveNames.{object_below}
use Rattle.copy_space.specs.CullNotes.{culled_of, broken_of, noted_cull}
use Rattle.copy_space.specs.WeakNames.{is_weak_object, place_before, AreWeakNames, IsWeakName}
use Rattle.finalizers.specs.Sweeping.{dead_ids, living}

-- a filter keeps all where all pass, and nothing where nothing does
filter-all : {X : Type 0} (p : X → Bool) (xs : List X) → All (λ x. p x ≡ true) xs → filter p xs ≡ xs
filter-all p [] all = refl
filter-all p (x ∷ xs) all = (let here : p x ≡ true = All-head (λ y. p y ≡ true) x xs all in rw here (ap (λ (ys : List _). x ∷ ys) (filter-all p xs (All-tail (λ y. p y ≡ true) x xs all))))

filter-no : {X : Type 0} (p : X → Bool) (xs : List X) → All (λ x. p x ≡ false) xs → filter p xs ≡ []
filter-no p [] all = refl
filter-no p (x ∷ xs) all = (let here : p x ≡ false = All-head (λ y. p y ≡ false) x xs all in rw here (filter-no p xs (All-tail (λ y. p y ≡ false) x xs all)))

flat-no : {X Y : Type 0} (f : X → List Y) (xs : List X) → ((x : X) → f x ≡ []) → flat_map f xs ≡ []
flat-no f [] none = refl
flat-no f (x ∷ xs) none = flat_map-cons f x xs ∙ (let here = none x in rw here (flat-no f xs none))

module _ (a : NamedHeap) (sound : IsSound a) (live : ℕ → Bool) (all : (name : ℕ) (o : Object) → object_at a.objects name ≡ Some o → live name ≡ true) where
  there-live : (name : ℕ) → IsSome (object_at a.objects name) → live name ≡ true
  there-live name is = go (object_at a.objects name) refl
    where
      go : (q : Option Object) → object_at a.objects name ≡ q → live name ≡ true
      go None e = absurd (false≢true (subst (λ (x : Option Object). IsSome x) e is))
      go (Some o) e = all name o e

  value-live : (v : Value) → IsLiving a.objects v → is_live live v ≡ true
  value-live (Fix n) l = refl
  value-live Nil l = refl
  value-live Unbound l = refl
  value-live (Ref name) l = there-live name l

  held-live : (v : Value) → IsLivingOrUnbound a.objects v → is_live live v ≡ true
  held-live (Fix n) l = refl
  held-live Nil l = refl
  held-live Unbound l = refl
  held-live (Ref name) l = there-live name l

  pub are-live : (vs : List Value) → AreLiving a.objects vs → AreLive live vs
  are-live vs l i = value-live (get_or vs i zero_value) (l i)

  -- the sides of pairs
  key-live : (pairs : List (Value × Value)) → AreLiving a.objects (map (λ pair. pair.0) pairs) → (i : ℕ) → is_live live (get_or pairs i (zero_value, zero_value)).0 ≡ true
  key-live pairs l i = elim (cases_lt i (length pairs)) [
    | inl inside ↦ value-live (get_or pairs i (zero_value, zero_value)).0
        (subst (IsLiving a.objects) (get_or-map (λ (pair : Value × Value). pair.0) pairs i (zero_value, zero_value) zero_value inside) (l i))
    | inr past ↦ ap (λ (pair : Value × Value). is_live live pair.0) (get_or_past pairs i (zero_value, zero_value) past)
  ]

  other-live : (pairs : List (Value × Value)) → AreLiving a.objects (map (λ pair. pair.1) pairs) → (i : ℕ) → is_live live (get_or pairs i (zero_value, zero_value)).1 ≡ true
  other-live pairs l i = elim (cases_lt i (length pairs)) [
    | inl inside ↦ value-live (get_or pairs i (zero_value, zero_value)).1
        (subst (IsLiving a.objects) (get_or-map (λ (pair : Value × Value). pair.1) pairs i (zero_value, zero_value) zero_value inside) (l i))
    | inr past ↦ ap (λ (pair : Value × Value). is_live live pair.1) (get_or_past pairs i (zero_value, zero_value) past)
  ]

  keeps-both : (w : Weakness) (k v : Bool) → k ≡ true → v ≡ true → KeepsSides w k v
  keeps-both weaknesses.Strong k v p q = (p, q)
  keeps-both weaknesses.Key k v p q = λ e. q
  keeps-both weaknesses.Value k v p q = λ e. p
  keeps-both weaknesses.KeyAndValue k v p q = tt
  keeps-both weaknesses.KeyOrValue k v p q = (λ e. q, λ e. p)

  kept-both : (w : Weakness) (k v : Bool) → k ≡ true → v ≡ true → keeps_pair w k v ≡ true
  kept-both weaknesses.Strong k v p q = refl
  kept-both weaknesses.Key k v p q = p
  kept-both weaknesses.Value k v p q = q
  kept-both weaknesses.KeyAndValue k v p q = rw (p, q) refl
  kept-both weaknesses.KeyOrValue k v p q = rw p refl

  pub keeps-all : (k : Contents) → HoldsLiving a.objects k → Keeps live k
  keeps-all (ConsOf x y) l = (value-live x l.0, value-live y l.1)
  keeps-all (VectorOf vs) l = are-live vs l
  keeps-all (InstanceOf vs) l = are-live vs l
  keeps-all (ClosureOf vs) l = are-live vs l
  keeps-all (WordsOf ws) l = tt
  keeps-all (WeakTo v) l = tt
  keeps-all (TableOf w b pairs) l = λ i. keeps-both w (is_live live (get_or pairs i (zero_value, zero_value)).0) (is_live live (get_or pairs i (zero_value, zero_value)).1) (key-live pairs l.0 i) (other-live pairs l.1 i)

  -- each pair of a table is kept
  pairs-kept : (w : Weakness) (pairs : List (Value × Value)) → AreLiving a.objects (map (λ pair. pair.0) pairs) → AreLiving a.objects (map (λ pair. pair.1) pairs) →
      All (λ pair. is_kept live w pair ≡ true) pairs
  pairs-kept w pairs keys others i d l =
      let same : get_or pairs i d ≡ get_or pairs i (zero_value, zero_value) = default-free pairs i d (zero_value, zero_value) l in
      ap (is_kept live w) same ∙ kept-both w (is_live live (get_or pairs i (zero_value, zero_value)).0) (is_live live (get_or pairs i (zero_value, zero_value)).1) (key-live pairs keys i) (other-live pairs others i)
    where
      default-free : {X : Type 0} (xs : List X) (i : ℕ) (d e : X) → i < length xs → get_or xs i d ≡ get_or xs i e
      default-free [] i d e l = absurd (omega (arith, l))
      default-free (x ∷ xs) zero d e l = refl
      default-free (x ∷ xs) (suc i) d e l = default-free xs i d e (omega (arith, l))

  pub survives-whole : (k : Contents) → HoldsLiving a.objects k → surviving live k ≡ k
  survives-whole (ConsOf x y) l = refl
  survives-whole (VectorOf vs) l = refl
  survives-whole (InstanceOf vs) l = refl
  survives-whole (ClosureOf vs) l = refl
  survives-whole (WordsOf ws) l = refl
  survives-whole (WeakTo v) l = (let is = held-live v l in rw is refl)
  survives-whole (TableOf w b pairs) l = ap (TableOf w b) (filter-all (is_kept live w) pairs (pairs-kept w pairs l.0 l.1))

  none-culled : (name : ℕ) (k : Contents) → HoldsLiving a.objects k → culled_from live name k ≡ []
  none-culled name (ConsOf x y) l = refl
  none-culled name (VectorOf vs) l = refl
  none-culled name (InstanceOf vs) l = refl
  none-culled name (ClosureOf vs) l = refl
  none-culled name (WordsOf ws) l = refl
  none-culled name (WeakTo v) l = refl
  none-culled name (TableOf w b pairs) l =
      ap (map (λ pair. record { table = name; key = pair.0; value = pair.1 }))
      (filter-no (λ pair. not (is_kept live w pair)) pairs (λ i d m. (let kept : is_kept live w (get_or pairs i d) ≡ true = pairs-kept w pairs l.0 l.1 i d m in rw kept refl)))

  none-broken : (k : Contents) → HoldsLiving a.objects k → breaks live k ≡ false
  none-broken (ConsOf x y) l = refl
  none-broken (VectorOf vs) l = refl
  none-broken (InstanceOf vs) l = refl
  none-broken (ClosureOf vs) l = refl
  none-broken (WordsOf ws) l = refl
  none-broken (WeakTo v) l = (let is = held-live v l in rw is refl)
  none-broken (TableOf w b pairs) l = refl

  culls-none : (name : ℕ) → culls_in live name (object_at a.objects name) ≡ []
  culls-none name = go (object_at a.objects name) refl
    where
      go : (q : Option Object) → object_at a.objects name ≡ q → culls_in live name q ≡ []
      go None e = refl
      go (Some o) e = (let is = all name o e in rw is (none-culled name o.contents (sound.objects name o e).contents))

  breaks-none : (name : ℕ) → breaks_in live name (object_at a.objects name) ≡ false
  breaks-none name = go (object_at a.objects name) refl
    where
      go : (q : Option Object) → object_at a.objects name ≡ q → breaks_in live name q ≡ false
      go None e = refl
      go (Some o) e = (let is = all name o e in let none = none-broken o.contents (sound.objects name o e).contents in rw (is, none) refl)

  pub culled-none : (ns : List ℕ) → culled_of a live ns ≡ []
  culled-none ns = ap (map (noted_cull a)) (flat-no (λ name. culls_in live name (object_at a.objects name)) ns culls-none)

  pub broken-none : (ns : List ℕ) → broken_of a live ns ≡ []
  broken-none ns = ap (map (place_before a)) (filter-no (λ name. breaks_in live name (object_at a.objects name)) ns (λ i d l. breaks-none (get_or ns i d)))

  -- finalizers are of objects that are there
  entries-live : All (λ (entry : ℕ × ℕ). live entry.0 ≡ true) a.finalizers
  entries-live i d l = there-live (get_or a.finalizers i d).0 (sound.finalizers i d l).there

  pub living-whole : living live a.finalizers ≡ a.finalizers
  living-whole = filter-all (λ (entry : ℕ × ℕ). live entry.0) a.finalizers entries-live

  pub dead-none : dead_ids live a.finalizers ≡ []
  dead-none = ap (map (λ (entry : ℕ × ℕ). entry.1))
      (filter-no (λ (entry : ℕ × ℕ). not (live entry.0)) a.finalizers (λ i d l. (let is : live (get_or a.finalizers i d).0 ≡ true = entries-live i d l in rw is refl)))

  -- all weak pointers and tables by name
  abbrev is_weak_name : ℕ → Bool
  is_weak_name name = is_weak_object (object_at a.objects name)

  abbrev pub weak_names : List ℕ
  weak_names = filter is_weak_name (names a)

  weak-name : (name : ℕ) → is_weak_name name ≡ true → IsWeakName a live name
  weak-name name is = go (object_at a.objects name) refl
    where
      go : (q : Option Object) → object_at a.objects name ≡ q → IsWeakName a live name
      go None e = absurd (false≢true (ap is_weak_object (sym e) ∙ is))
      go (Some o) e = record { o = o; there = e; weak = ap is_weak_object (sym e) ∙ is; lives = all name o e }

  names-once : AllPairs (λ (x y : ℕ). x ≢ y) (names a)
  names-once i j d l m =
      let long = length-range_with_len 0 (length a.objects) in
      let first = get_or-range_with_len 0 (length a.objects) i d (omega arith) in
      let second = get_or-range_with_len 0 (length a.objects) j d (omega arith) in
      λ same. absurd (omega (arith, first, second, same))

  pub are-weak-names : AreWeakNames a live weak_names
  are-weak-names = record {
    each = All-weaker (λ name. is_weak_name name ≡ true) (IsWeakName a live) weak-name weak_names (filter_passes is_weak_name (names a));
    once = AllPairs-filter (λ (x y : ℕ). x ≢ y) is_weak_name (names a) names-once;
    all = λ name o there weak lives.
        (let long = length-range_with_len 0 (length a.objects) in
        let below = object_below a.objects name o there in
        let at = get_or-range_with_len 0 (length a.objects) name 0 below in
        let listed : list_any (nat_eq name) (names a) ≡ true = list_any_at (nat_eq name) (names a) name 0 (omega arith) (eq-eqb name (get_or (names a) name 0) (omega (arith, at))) in
        any-filter_same (nat_eq name) is_weak_name true
        (λ k e. (let same = eqb-true name k e in ap is_weak_name (sym same) ∙ ap is_weak_object there ∙ weak)) (names a) ∙ listed);
  }
