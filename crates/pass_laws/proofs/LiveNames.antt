-- Live names exist: from no name on, what the members keep is added until nothing new comes.
use Rattle.std.proofs.Common.{◌≡◌, ℕ, zero, suc, ◌+◌, ◌<◌, ◌≤◌, List, [], ◌∷◌, length, get_or, Option, Some, None, Bool, true, false, ◌⊎◌, inl, inr, refl, sym, ◌∙◌, subst, arith}
use Rattle.std.proofs.lemmas.Bool.{cases_lt, cases_eq, cases_Bool, or_cases, or_left, or_right, and_parts, and_from, lt-ltb, ltb-true, false≢true, eqb-true, eq-eqb, not_from_false, not-true}
use Rattle.std.proofs.lemmas.List.Folds.{Any-from_list_any, list_any_at}
use Rattle.std.proofs.lemmas.List.FromFn.{length-range_with_len, get_or-range_with_len}
use Rattle.std.proofs.lemmas.List.{get_or_past}
use Rattle.std.specs.List.{list_any, range_with_len}
use Rattle.std.specs.Prelude.{◌&&◌, ◌||◌, not, ◌==◌, ◌≢◌, nat_lt, if◌then◌else◌}
use Rattle.heap_terms.specs.declared.cells.Value.{Value}
use Rattle.heap_terms.specs.declared.cells.Value.TheVariants as values
use Rattle.heap_terms.specs.declared.kinds.Weakness.{Weakness}
use Rattle.heap_terms.specs.declared.kinds.Weakness.TheVariants as weaknesses
use Rattle.heap_terms.specs.Heap.{NamedHeap, Thread, object_at, thread_at, ended_thread, fresh_thread, zero_value}
use Rattle.heap_terms.specs.Live.{is_live, AreLive, KeepsSides, Keeps, IsClosed, AreLiveNames}
use Rattle.heap_terms.specs.Objects.{Object, Contents, ConsOf, VectorOf, InstanceOf, ClosureOf, WordsOf, WeakTo, TableOf}
use Rattle.heap_terms.specs.Roots.{is_hit, ambiguous_words}

-- a value refers to a name
abbrev pub refers : ℕ → Value → Bool
refers name (values.Fix n) = false
refers name values.Nil = false
refers name values.Unbound = false
refers name (values.Ref other) = other == name

-- whether a pair keeps its value, and its key, from whether the other side is live
abbrev pub keeps_value : Weakness → Bool → Bool
keeps_value weaknesses.Strong k = true
keeps_value weaknesses.Key k = k
keeps_value weaknesses.Value k = false
keeps_value weaknesses.KeyAndValue k = false
keeps_value weaknesses.KeyOrValue k = k

abbrev pub keeps_key : Weakness → Bool → Bool
keeps_key weaknesses.Strong v = true
keeps_key weaknesses.Key v = false
keeps_key weaknesses.Value v = v
keeps_key weaknesses.KeyAndValue v = false
keeps_key weaknesses.KeyOrValue v = v

abbrev pub pair_reaches : (ℕ → Bool) → ℕ → Weakness → Value × Value → Bool
pair_reaches set name w pair =
    (keeps_value w (is_live set pair.0) && refers name pair.1) || (keeps_key w (is_live set pair.1) && refers name pair.0)

-- what a member keeps has this name
abbrev pub reaches : (ℕ → Bool) → ℕ → Contents → Bool
reaches set name (ConsOf a b) = refers name a || refers name b
reaches set name (VectorOf vs) = list_any (refers name) vs
reaches set name (InstanceOf vs) = list_any (refers name) vs
reaches set name (ClosureOf vs) = list_any (refers name) vs
reaches set name (WordsOf ws) = false
reaches set name (WeakTo v) = false
reaches set name (TableOf w b pairs) = list_any (pair_reaches set name w) pairs

abbrev pub reaches_from : (ℕ → Bool) → ℕ → Option Object → Bool
reaches_from set name None = false
reaches_from set name (Some o) = reaches set name o.contents

-- an object is of another generation
abbrev pub is_other : ℕ → Option Object → Bool
is_other g None = false
is_other g (Some o) = not (o.generation == g)

abbrev pub thread_refers : ℕ → Thread → Bool
thread_refers name th = list_any (refers name) th.exact

-- a root has the name
abbrev pub is_root : NamedHeap → ℕ → ℕ → Bool
is_root a g name =
    is_other g (object_at a.objects name) || (list_any (thread_refers name) a.threads || (list_any (refers name) a.shared || is_hit a name))

-- one step: the members, the roots, and what the members keep
unfoldable pub step : NamedHeap → ℕ → (ℕ → Bool) → ℕ → Bool
step a g set name =
    set name || (nat_lt name (length a.objects)
    && (is_root a g name || list_any (λ m. set m && reaches_from set name (object_at a.objects m)) (range_with_len 0 (length a.objects))))

-- a value that refers to a name is live exactly where the name is
pub refers_live : (set : ℕ → Bool) (v : Value) → ((name : ℕ) → refers name v ≡ true → set name ≡ true) → is_live set v ≡ true
refers_live set (values.Fix n) h = refl
refers_live set values.Nil h = refl
refers_live set values.Unbound h = refl
refers_live set (values.Ref x) h = h x (eq-eqb x x refl)

pub live_refers : (set : ℕ → Bool) (v : Value) (name : ℕ) → is_live set v ≡ true → refers name v ≡ true → set name ≡ true
live_refers set (values.Fix n) name h e = absurd (false≢true e)
live_refers set values.Nil name h e = absurd (false≢true e)
live_refers set values.Unbound name h e = absurd (false≢true e)
live_refers set (values.Ref x) name h e = subst (λ (y : ℕ). set y ≡ true) (eqb-true x name e) h

-- a list of values is live exactly where the names are that it refers to
list_live : (set : ℕ → Bool) (vs : List Value) → ((name : ℕ) → list_any (refers name) vs ≡ true → set name ≡ true) → AreLive set vs
list_live set vs h i = elim (cases_lt i (length vs)) [
  | inl l ↦ refers_live set (get_or vs i zero_value) (λ name e. h name (list_any_at (refers name) vs i zero_value l e))
  | inr l ↦ rw (get_or_past vs i zero_value l) refl
]

live_list : (set : ℕ → Bool) (vs : List Value) (name : ℕ) → AreLive set vs → list_any (refers name) vs ≡ true → set name ≡ true
live_list set vs name h e =
    let found = Any-from_list_any (refers name) vs e in
    let here : get_or vs found.0 zero_value ≡ found.1 = at_any vs found.0 found.1 found.2 found.3 in
    live_refers set found.1 name (subst (λ (v : Value). is_live set v ≡ true) here (h found.0)) found.4
  where
    at_any : (vs : List Value) (k : ℕ) (x : Value) → k < length vs → get_or vs k x ≡ x → get_or vs k zero_value ≡ x
    at_any [] k x l e = absurd (omega (arith, l))
    at_any (y ∷ ys) zero x l e = e
    at_any (y ∷ ys) (suc k) x l e = at_any ys k x (omega (arith, l)) e

-- pairs likewise
pair_live : (set : ℕ → Bool) (w : Weakness) (pair : Value × Value) → ((name : ℕ) → pair_reaches set name w pair ≡ true → set name ≡ true) →
    KeepsSides w (is_live set pair.0) (is_live set pair.1)
pair_live set w pair h = by_weakness w
    (λ e. refers_live set pair.1 (λ name f. h name (or_left (keeps_value w (is_live set pair.0) && refers name pair.1) _ (and_from _ _ e f))))
    (λ e. refers_live set pair.0 (λ name f. h name (or_right (keeps_value w (is_live set pair.0) && refers name pair.1) _ (and_from _ _ e f))))
  where
    by_weakness : (w : Weakness) {k v : Bool} → (keeps_value w k ≡ true → v ≡ true) → (keeps_key w v ≡ true → k ≡ true) → KeepsSides w k v
    by_weakness weaknesses.Strong value key = (key refl, value refl)
    by_weakness weaknesses.Key value key = value
    by_weakness weaknesses.Value value key = key
    by_weakness weaknesses.KeyAndValue value key = tt
    by_weakness weaknesses.KeyOrValue value key = (value, key)

live_value : (w : Weakness) (k v : Bool) → KeepsSides w k v → keeps_value w k ≡ true → v ≡ true
live_value weaknesses.Strong k v h e = h.1
live_value weaknesses.Key k v h e = h e
live_value weaknesses.Value k v h e = absurd (false≢true e)
live_value weaknesses.KeyAndValue k v h e = absurd (false≢true e)
live_value weaknesses.KeyOrValue k v h e = h.0 e

live_key : (w : Weakness) (k v : Bool) → KeepsSides w k v → keeps_key w v ≡ true → k ≡ true
live_key weaknesses.Strong k v h e = h.0
live_key weaknesses.Key k v h e = absurd (false≢true e)
live_key weaknesses.Value k v h e = h e
live_key weaknesses.KeyAndValue k v h e = absurd (false≢true e)
live_key weaknesses.KeyOrValue k v h e = h.1 e

-- with more names a value stays live, and a pair keeps its sides
is_live-more : (set other : ℕ → Bool) (v : Value) → ((name : ℕ) → set name ≡ true → other name ≡ true) → is_live set v ≡ true → is_live other v ≡ true
is_live-more set other (values.Fix n) more h = refl
is_live-more set other values.Nil more h = refl
is_live-more set other values.Unbound more h = refl
is_live-more set other (values.Ref x) more h = more x h

keeps_value-more : (w : Weakness) (k l : Bool) → (k ≡ true → l ≡ true) → keeps_value w k ≡ true → keeps_value w l ≡ true
keeps_value-more weaknesses.Strong k l more h = h
keeps_value-more weaknesses.Key k l more h = more h
keeps_value-more weaknesses.Value k l more h = h
keeps_value-more weaknesses.KeyAndValue k l more h = h
keeps_value-more weaknesses.KeyOrValue k l more h = more h

keeps_key-more : (w : Weakness) (k l : Bool) → (k ≡ true → l ≡ true) → keeps_key w k ≡ true → keeps_key w l ≡ true
keeps_key-more weaknesses.Strong k l more h = h
keeps_key-more weaknesses.Key k l more h = h
keeps_key-more weaknesses.Value k l more h = more h
keeps_key-more weaknesses.KeyAndValue k l more h = h
keeps_key-more weaknesses.KeyOrValue k l more h = more h

-- a set that has what its members keep is closed under them, and the other way round
contents_live : (set : ℕ → Bool) (k : Contents) → ((name : ℕ) → reaches set name k ≡ true → set name ≡ true) → Keeps set k
contents_live set (ConsOf a b) h =
    (refers_live set a (λ name e. h name (or_left (refers name a) (refers name b) e)), refers_live set b (λ name e. h name (or_right (refers name a) (refers name b) e)))
contents_live set (VectorOf vs) h = list_live set vs h
contents_live set (InstanceOf vs) h = list_live set vs h
contents_live set (ClosureOf vs) h = list_live set vs h
contents_live set (WordsOf ws) h = tt
contents_live set (WeakTo v) h = tt
contents_live set (TableOf w b pairs) h = λ i. elim (cases_lt i (length pairs)) [
  | inl l ↦ pair_live set w (get_or pairs i (zero_value, zero_value)) (λ name e. h name (list_any_at (pair_reaches set name w) pairs i (zero_value, zero_value) l e))
  | inr l ↦ rw (get_or_past pairs i (zero_value, zero_value) l) (no_pair w)
]
  where
    no_pair : (w : Weakness) → KeepsSides w true true
    no_pair weaknesses.Strong = (refl, refl)
    no_pair weaknesses.Key = λ e. e
    no_pair weaknesses.Value = λ e. e
    no_pair weaknesses.KeyAndValue = tt
    no_pair weaknesses.KeyOrValue = (λ e. e, λ e. e)

-- what members of a smaller set reach is in a closed set
live_contents : (set other : ℕ → Bool) (k : Contents) (name : ℕ) → ((x : ℕ) → set x ≡ true → other x ≡ true) → Keeps other k → reaches set name k ≡ true → other name ≡ true
live_contents set other (ConsOf a b) name more h e = elim (or_cases (refers name a) (refers name b) e) [
  | inl f ↦ live_refers other a name h.0 f
  | inr f ↦ live_refers other b name h.1 f
]
live_contents set other (VectorOf vs) name more h e = live_list other vs name h e
live_contents set other (InstanceOf vs) name more h e = live_list other vs name h e
live_contents set other (ClosureOf vs) name more h e = live_list other vs name h e
live_contents set other (WordsOf ws) name more h e = absurd (false≢true e)
live_contents set other (WeakTo v) name more h e = absurd (false≢true e)
live_contents set other (TableOf w b pairs) name more h e =
    let found = Any-from_list_any (pair_reaches set name w) pairs e in
    let here : get_or pairs found.0 (zero_value, zero_value) ≡ found.1 = at_any pairs found.0 found.1 found.2 found.3 in
    let sides : KeepsSides w (is_live other found.1.0) (is_live other found.1.1) =
    subst (λ (q : Value × Value). KeepsSides w (is_live other q.0) (is_live other q.1)) here (h found.0) in
    elim (or_cases (keeps_value w (is_live set found.1.0) && refers name found.1.1) (keeps_key w (is_live set found.1.1) && refers name found.1.0) found.4) [
      | inl f ↦ (let both = and_parts _ _ f in live_refers other found.1.1 name (live_value w _ _ sides
          (keeps_value-more w _ _ (is_live-more set other found.1.0 more) both.0)) both.1)
      | inr f ↦ (let both = and_parts _ _ f in live_refers other found.1.0 name (live_key w _ _ sides
          (keeps_key-more w _ _ (is_live-more set other found.1.1 more) both.0)) both.1)
    ]
  where
    at_any : (vs : List (Value × Value)) (k : ℕ) (x : Value × Value) → k < length vs → get_or vs k x ≡ x → get_or vs k (zero_value, zero_value) ≡ x
    at_any [] k x l e = absurd (omega (arith, l))
    at_any (y ∷ ys) zero x l e = e
    at_any (y ∷ ys) (suc k) x l e = at_any ys k x (omega (arith, l)) e

-- names of members and roots are below the number of objects where every value refers to an object that is there
abbrev pub AllBelow : NamedHeap → Type 0
AllBelow a =
    ((t : ℕ) (name : ℕ) → list_any (refers name) (thread_at a t).exact ≡ true → name < length a.objects)
    × ((name : ℕ) → list_any (refers name) a.shared ≡ true → name < length a.objects)
    × ((m : ℕ) (o : Object) (set : ℕ → Bool) (name : ℕ) → object_at a.objects m ≡ Some o → reaches set name o.contents ≡ true → name < length a.objects)

pub object_below : (objects : List (Option Object)) (name : ℕ) (o : Object) → object_at objects name ≡ Some o → name < length objects
object_below objects name o e = elim (cases_lt name (length objects)) [
  | inl l ↦ l
  | inr l ↦ (let none : None ≡ Some o = rw (get_or_past objects name None l) at e in cc)
]

hit_below : (a : NamedHeap) (name : ℕ) → is_hit a name ≡ true → name < length a.objects
hit_below a name e = elim (cases_lt name (length a.objects)) [
  | inl l ↦ l
  | inr l ↦ absurd (no_hits (ambiguous_words a) (rw (get_or_past a.objects name None l) at e))
]
  where
    no_hits : (ws : List ℕ) → list_any (λ _. false) ws ≡ true → ⊥
    no_hits [] e = false≢true e
    no_hits (w ∷ ws) e = no_hits ws e

-- nothing new comes
abbrev pub IsFixed : NamedHeap → ℕ → (ℕ → Bool) → Type 0
IsFixed a g set = (name : ℕ) → step a g set name ≡ true → set name ≡ true

step_from : (a : NamedHeap) (g : ℕ) (set : ℕ → Bool) (name : ℕ) → name < length a.objects →
    (is_root a g name || list_any (λ m. set m && reaches_from set name (object_at a.objects m)) (range_with_len 0 (length a.objects))) ≡ true →
    step a g set name ≡ true
unfolding step
step_from a g set name l e = or_right (set name) _ (and_from _ _ (lt-ltb name (length a.objects) l) e)

-- then the set is closed
pub fixed_closed : (a : NamedHeap) (g : ℕ) (set : ℕ → Bool) → AllBelow a → IsFixed a g set → IsClosed a g set
fixed_closed a g set below fixed = record {
  others = λ name o e apart. fixed name (step_from a g set name (object_below a.objects name o e)
      (or_left (is_root a g name) _ (or_left (is_other g (object_at a.objects name)) _ (rw e (not_from_false (o.generation == g) (not_same o.generation g apart))))));
  exact = λ t. list_live set (thread_at a t).exact (λ name e. fixed name (step_from a g set name (below.0 t name e)
      (or_left (is_root a g name) _ (or_right (is_other g (object_at a.objects name)) _ (or_left (list_any (thread_refers name) a.threads) _ (exact_root t name e))))));
  shared = list_live set a.shared (λ name e. fixed name (step_from a g set name (below.1 name e)
      (or_left (is_root a g name) _ (or_right (is_other g (object_at a.objects name)) _ (or_right (list_any (thread_refers name) a.threads) _ (or_left _ _ e))))));
  hit = λ name e. fixed name (step_from a g set name (hit_below a name e)
      (or_left (is_root a g name) _ (or_right (is_other g (object_at a.objects name)) _ (or_right (list_any (thread_refers name) a.threads) _
      (or_right (list_any (refers name) a.shared) _ e)))));
  members = λ m o e in_set. contents_live set o.contents (λ name f. fixed name (step_from a g set name (below.2 m o set name e f)
      (or_right (is_root a g name) _ (kept m o name e in_set f))));
}
  where
    not_same : (x y : ℕ) → x ≢ y → (x == y) ≡ false
    not_same x y h = elim (cases_Bool (x == y)) [
      | inl e ↦ absurd (h (eqb-true x y e))
      | inr e ↦ e
    ]

    exact_root : (t name : ℕ) → list_any (refers name) (thread_at a t).exact ≡ true → list_any (thread_refers name) a.threads ≡ true
    exact_root t name e = elim (cases_lt t (length a.threads)) [
      | inl l ↦ list_any_at (thread_refers name) a.threads t (ended_thread fresh_thread) l e
      | inr l ↦ (let none : false ≡ true = rw (get_or_past a.threads t (ended_thread fresh_thread) l) at e in absurd (false≢true none))
    ]

    kept : (m : ℕ) (o : Object) (name : ℕ) → object_at a.objects m ≡ Some o → set m ≡ true → reaches set name o.contents ≡ true →
        list_any (λ m. set m && reaches_from set name (object_at a.objects m)) (range_with_len 0 (length a.objects)) ≡ true
    kept m o name e in_set f =
        let l = object_below a.objects m o e in
        let at : get_or (range_with_len 0 (length a.objects)) m 0 ≡ m = get_or-range_with_len 0 (length a.objects) m 0 l ∙ omega arith in
        list_any_at (λ m. set m && reaches_from set name (object_at a.objects m)) (range_with_len 0 (length a.objects)) m 0
        (omega (arith, length-range_with_len 0 (length a.objects)))
        (rw at (and_from (set m) _ in_set (rw e f)))

-- every closed set has what is added
pub step_least : (a : NamedHeap) (g : ℕ) (set other : ℕ → Bool) → IsClosed a g other → ((name : ℕ) → set name ≡ true → other name ≡ true) →
    (name : ℕ) → step a g set name ≡ true → other name ≡ true
unfolding step
step_least a g set other closed more name e = elim (or_cases (set name) _ e) [
  | inl f ↦ more name f
  | inr f ↦ elim (or_cases (is_root a g name) _ (and_parts _ _ f).1) [
    | inl root ↦ elim (or_cases (is_other g (object_at a.objects name)) _ root) [
      | inl apart ↦ other_in (object_at a.objects name) refl apart
      | inr rest ↦ elim (or_cases (list_any (thread_refers name) a.threads) _ rest) [
        | inl exact ↦ (let found = Any-from_list_any (thread_refers name) a.threads exact in
            live_list other (thread_at a found.0).exact name (closed.exact found.0)
            (subst (λ (th : Thread). list_any (refers name) th.exact ≡ true) (sym (at_any a.threads found.0 found.1 (ended_thread fresh_thread) found.2 found.3)) found.4))
        | inr rest' ↦ elim (or_cases (list_any (refers name) a.shared) _ rest') [
          | inl shared ↦ live_list other a.shared name closed.shared shared
          | inr hit ↦ closed.hit name hit
        ]
      ]
    ]
    | inr reached ↦ (let found = Any-from_list_any (λ m. set m && reaches_from set name (object_at a.objects m)) (range_with_len 0 (length a.objects)) reached in
        let both = and_parts _ _ found.4 in
        reached_in found.1 (more found.1 both.0) (object_at a.objects found.1) refl both.1)
  ]
]
  where
    at_any : {X : Type 0} (xs : List X) (k : ℕ) (x d : X) → k < length xs → get_or xs k x ≡ x → get_or xs k d ≡ x
    at_any [] k x d l e = absurd (omega (arith, l))
    at_any (y ∷ ys) zero x d l e = e
    at_any (y ∷ ys) (suc k) x d l e = at_any ys k x d (omega (arith, l)) e

    other_in : (o : Option Object) → object_at a.objects name ≡ o → is_other g o ≡ true → other name ≡ true
    other_in None f h = absurd (false≢true h)
    other_in (Some o) f h = closed.others name o f (λ same. false≢true (sym (not-true (o.generation == g) h) ∙ eq-eqb o.generation g same))

    reached_in : (m : ℕ) → other m ≡ true → (o : Option Object) → object_at a.objects m ≡ o → reaches_from set name o ≡ true → other name ≡ true
    reached_in m in_other None f h = absurd (false≢true h)
    reached_in m in_other (Some o) f h = live_contents set other o.contents name more (closed.members m o f in_other) h

-- how many names below n are in a set
pub how_many : (ℕ → Bool) → ℕ → ℕ
how_many set zero = 0
how_many set (suc n) = (if set n then 1 else 0) + how_many set n

how_many-most : (set : ℕ → Bool) (n : ℕ) → how_many set n ≤ n
unfolding how_many
how_many-most set zero = omega arith
how_many-most set (suc n) = (let rest = how_many-most set n in most (set n) (how_many set n) n rest)
  where
    most : (b : Bool) (k n : ℕ) → k ≤ n → (if b then 1 else 0) + k ≤ suc n
    most true k n h = omega arith
    most false k n h = omega arith

-- with all names below n there is none to come
how_many-all : (set : ℕ → Bool) (n name : ℕ) → n ≤ how_many set n → name < n → set name ≡ true
unfolding how_many
how_many-all set zero name all l = absurd (omega (arith, l))
how_many-all set (suc n) name all l = elim (cases_Bool (set n)) [
  | inl here ↦ elim (cases_eq name n) [
    | inl same ↦ rw same here
    | inr apart ↦ how_many-all set n name (let all' : suc n ≤ 1 + how_many set n = rw here at all in omega arith) (omega arith)
  ]
  | inr gone ↦ (let all' : suc n ≤ 0 + how_many set n = rw gone at all in absurd (omega (arith, how_many-most set n)))
]

-- a step that adds a name adds one at least
how_many-more : (set more : ℕ → Bool) (n : ℕ) → ((x : ℕ) → set x ≡ true → more x ≡ true) → how_many set n ≤ how_many more n
unfolding how_many
how_many-more set more zero h = omega arith
how_many-more set more (suc n) h = (let rest = how_many-more set more n h in
    elim (cases_Bool (set n)) [
      | inl here ↦ rw (here, h n here) (omega arith)
      | inr gone ↦ rw gone (omega arith)
    ])

how_many-grows : (set more : ℕ → Bool) (n name : ℕ) → ((x : ℕ) → set x ≡ true → more x ≡ true) → name < n → set name ≡ false → more name ≡ true →
    how_many set n + 1 ≤ how_many more n
unfolding how_many
how_many-grows set more zero name h l old new = absurd (omega (arith, l))
how_many-grows set more (suc n) name h l old new = elim (cases_eq name n) [
  | inl same ↦ (let rest = how_many-more set more n h in
      let old' : set n ≡ false = subst (λ (x : ℕ). set x ≡ false) same old in
      let new' : more n ≡ true = subst (λ (x : ℕ). more x ≡ true) same new in
      rw (old', new') (omega arith))
  | inr apart ↦ (let rest = how_many-grows set more n name h (omega arith) old new in
      elim (cases_Bool (set n)) [
        | inl here ↦ rw (here, h n here) (omega arith)
        | inr gone ↦ rw gone (omega arith)
      ])
]

-- a step adds a name, or nothing is new
abbrev pub AddsOne : NamedHeap → ℕ → (ℕ → Bool) → Type 0
AddsOne a g set = (name : ℕ) × (name < length a.objects) × (step a g set name ≡ true) × (set name ≡ false)

pub step_below : (a : NamedHeap) (g : ℕ) (set : ℕ → Bool) (name : ℕ) → step a g set name ≡ true → set name ≡ false → name < length a.objects
unfolding step
step_below a g set name e gone = elim (or_cases (set name) _ e) [
  | inl here ↦ absurd (false≢true (sym gone ∙ here))
  | inr f ↦ ltb-true name (length a.objects) (and_parts _ _ f).0
]

one_more : (a : NamedHeap) (g : ℕ) (set : ℕ → Bool) (n : ℕ) → n ≤ length a.objects →
    AddsOne a g set ⊎ ((name : ℕ) → name < n → step a g set name ≡ true → set name ≡ true)
one_more a g set zero h = inr (λ name l e. absurd (omega (arith, l)))
one_more a g set (suc n) h = elim (one_more a g set n (omega arith)) [
  | inl adds ↦ inl adds
  | inr none ↦ elim (cases_Bool (set n)) [
    | inl here ↦ inr (λ name l e. elim (cases_eq name n) [
      | inl same ↦ rw same here
      | inr apart ↦ none name (omega arith) e
    ])
    | inr gone ↦ elim (cases_Bool (step a g set n)) [
      | inl new ↦ inl (n, omega arith, new, gone)
      | inr old ↦ inr (λ name l e. elim (cases_eq name n) [
        | inl same ↦ absurd (false≢true (sym old ∙ subst (λ (x : ℕ). step a g set x ≡ true) same e))
        | inr apart ↦ none name (omega arith) e
      ])
    ]
  ]
]

adds_or_fixed : (a : NamedHeap) (g : ℕ) (set : ℕ → Bool) → AddsOne a g set ⊎ IsFixed a g set
adds_or_fixed a g set = elim (one_more a g set (length a.objects) (omega arith)) [
  | inl adds ↦ inl adds
  | inr none ↦ inr (λ name e. elim (cases_Bool (set name)) [
    | inl here ↦ here
    | inr gone ↦ none name (step_below a g set name e gone) e
  ])
]

step_keeps : (a : NamedHeap) (g : ℕ) (set : ℕ → Bool) (name : ℕ) → set name ≡ true → step a g set name ≡ true
unfolding step
step_keeps a g set name e = or_left (set name) _ e

-- a set that every closed set has
abbrev pub IsLeast : NamedHeap → ℕ → (ℕ → Bool) → Type 0
IsLeast a g set = (other : ℕ → Bool) → IsClosed a g other → (name : ℕ) → set name ≡ true → other name ≡ true

live_from : (a : NamedHeap) (g : ℕ) (fuel : ℕ) (set : ℕ → Bool) → AllBelow a → length a.objects ≤ how_many set (length a.objects) + fuel → IsLeast a g set →
    (live : ℕ → Bool) × AreLiveNames a g live
live_from a g zero set below enough least = elim (adds_or_fixed a g set) [
  | inr fixed ↦ (set, record { closed = fixed_closed a g set below fixed; least = least })
  | inl adds ↦ absurd (false≢true (sym adds.3 ∙ how_many-all set (length a.objects) adds.0 (omega arith) adds.1))
]
live_from a g (suc fuel) set below enough least = elim (adds_or_fixed a g set) [
  | inr fixed ↦ (set, record { closed = fixed_closed a g set below fixed; least = least })
  | inl adds ↦ (let grows = how_many-grows set (step a g set) (length a.objects) adds.0 (step_keeps a g set) adds.1 adds.3 adds.2 in
      live_from a g fuel (step a g set) below (omega arith) (λ other closed. step_least a g set other closed (least other closed)))
]

-- a heap whose values refer to objects that are there has live names
pub live_names : (a : NamedHeap) (g : ℕ) → AllBelow a → (live : ℕ → Bool) × AreLiveNames a g live
live_names a g below = live_from a g (length a.objects) (λ _. false) below (omega arith) (λ other closed name e. absurd (false≢true e))
