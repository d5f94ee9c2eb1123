-- Tests that decide whether a record tells a pass over a heap of few objects.
use Rattle.std.proofs.Common.{◌≡◌, ℕ, zero, suc, ◌<◌, List, [], ◌∷◌, length, get_or, map, Option, Some, None, Bool, true, false, inl, inr, refl, sym, ◌∙◌, subst, arith}
use Rattle.std.proofs.lemmas.Bool.{cases_lt, cases_Bool, or_cases, and_parts, ltb-true, false≢true, eqb-true, not-true, eqb-false}
use Rattle.std.proofs.lemmas.List.FromFn.{get_or-range_with_len, length-range_with_len, get_or-map-range_with_len, length-map-range_with_len}
use Rattle.std.proofs.lemmas.List.Sums.{AllPass-from_list_all}
use Rattle.std.proofs.lemmas.List.{get_or_past}
use Rattle.std.specs.List.{list_any, list_all, range_with_len}
use Rattle.std.specs.Prelude.{All, AllPairs, ◌&&◌, ◌||◌, not, ◌==◌, ◌≢◌, nat_lt}
use Rattle.heap_terms.specs.declared.cells.Value.{Value}
use Rattle.heap_terms.specs.declared.cells.Value.TheVariants as values
use Rattle.heap_terms.specs.declared.events.PassRecord.{PassRecord}
use Rattle.heap_terms.specs.declared.events.PinAt.{PinAt}
use Rattle.heap_terms.specs.declared.events.Placing.{Placing}
use Rattle.heap_terms.specs.Generations.{is_of, names}
use Rattle.heap_terms.specs.Heap.{NamedHeap, Thread, object_at, thread_at, ended_thread, fresh_thread, zero_value}
use Rattle.heap_terms.specs.Live.{IsClosed, AreLiveNames, is_live}
use Rattle.heap_terms.specs.Objects.{Object, Contents, ConsOf, VectorOf, InstanceOf, ClosureOf, WordsOf, WeakTo, TableOf}
use Rattle.heap_terms.specs.Passes.{ArePins, remains}
use Rattle.heap_terms.specs.Roots.{is_pinned}
use Rattle.pass_laws.proofs.LiveNames.{refers, pair_reaches, keeps_value, reaches, AllBelow, object_below, step, step_below, step_least, fixed_closed}
use Rattle.pass_laws.proofs.Lookups.{found_at}
use Rattle.pass_laws.proofs.PinLists.{pinned_there}

-- every name of a value, a list and an object is below a number
abbrev pub value_below : ℕ → Value → Bool
value_below n (values.Fix k) = true
value_below n values.Nil = true
value_below n values.Unbound = true
value_below n (values.Ref x) = nat_lt x n

abbrev pub pair_below : ℕ → Value × Value → Bool
pair_below n pair = value_below n pair.0 && value_below n pair.1

abbrev pub contents_below : ℕ → Contents → Bool
contents_below n (ConsOf a b) = value_below n a && value_below n b
contents_below n (VectorOf vs) = list_all (value_below n) vs
contents_below n (InstanceOf vs) = list_all (value_below n) vs
contents_below n (ClosureOf vs) = list_all (value_below n) vs
contents_below n (WordsOf ws) = true
contents_below n (WeakTo v) = true
contents_below n (TableOf w b pairs) = list_all (pair_below n) pairs

abbrev pub object_in : ℕ → Option Object → Bool
object_in n None = true
object_in n (Some o) = contents_below n o.contents

abbrev pub thread_below : ℕ → Thread → Bool
thread_below n th = list_all (value_below n) th.exact

-- so all names of a heap are of objects
abbrev pub names_below : NamedHeap → Bool
names_below a =
    let n = length a.objects in
    list_all (thread_below n) a.threads && (list_all (value_below n) a.shared && list_all (object_in n) a.objects)

value_in : (n x : ℕ) (v : Value) → value_below n v ≡ true → refers x v ≡ true → x < n
value_in n x (values.Fix k) h e = absurd (false≢true e)
value_in n x values.Nil h e = absurd (false≢true e)
value_in n x values.Unbound h e = absurd (false≢true e)
value_in n x (values.Ref y) h e = subst (λ (z : ℕ). z < n) (eqb-true y x e) (ltb-true y n h)

list_in : (n x : ℕ) (vs : List Value) → list_all (value_below n) vs ≡ true → list_any (refers x) vs ≡ true → x < n
list_in n x vs h e =
    let found = found_at (refers x) vs e in
    value_in n x (get_or vs found.0 zero_value) (AllPass-from_list_all (value_below n) vs h found.0 zero_value found.1) (found.2 zero_value)

contents_in : (n x : ℕ) (set : ℕ → Bool) (k : Contents) → contents_below n k ≡ true → reaches set x k ≡ true → x < n
contents_in n x set (ConsOf a b) h e = elim (or_cases (refers x a) (refers x b) e) [
  | inl f ↦ value_in n x a (and_parts _ _ h).0 f
  | inr f ↦ value_in n x b (and_parts _ _ h).1 f
]
contents_in n x set (VectorOf vs) h e = list_in n x vs h e
contents_in n x set (InstanceOf vs) h e = list_in n x vs h e
contents_in n x set (ClosureOf vs) h e = list_in n x vs h e
contents_in n x set (WordsOf ws) h e = absurd (false≢true e)
contents_in n x set (WeakTo v) h e = absurd (false≢true e)
contents_in n x set (TableOf w b pairs) h e =
    let found = found_at (pair_reaches set x w) pairs e in
    let d : Value × Value = (zero_value, zero_value) in
    let both = and_parts _ _ (AllPass-from_list_all (pair_below n) pairs h found.0 d found.1) in
    elim (or_cases (keeps_value w (is_live set (get_or pairs found.0 d).0) && refers x (get_or pairs found.0 d).1) _ (found.2 d)) [
      | inl f ↦ value_in n x (get_or pairs found.0 d).1 both.1 (and_parts _ _ f).1
      | inr f ↦ value_in n x (get_or pairs found.0 d).0 both.0 (and_parts _ _ f).1
    ]

all_in : (a : NamedHeap) → names_below a ≡ true → AllBelow a
all_in a h =
    let n = length a.objects in
    let parts = and_parts _ _ h in
    let rest = and_parts _ _ parts.1 in (
      λ t x e. thread_in t x parts.0 e,
      λ x e. list_in n x a.shared rest.0 e,
      λ m o set x at e. contents_in n x set o.contents (object_is m o rest.1 at) e,
    )
  where
    thread_in : (t x : ℕ) → list_all (thread_below (length a.objects)) a.threads ≡ true → list_any (refers x) (thread_at a t).exact ≡ true → x < length a.objects
    thread_in t x all e = elim (cases_lt t (length a.threads)) [
      | inl l ↦ list_in (length a.objects) x (thread_at a t).exact (AllPass-from_list_all (thread_below (length a.objects)) a.threads all t (ended_thread fresh_thread) l) e
      | inr l ↦ (let never : false ≡ true = rw (get_or_past a.threads t (ended_thread fresh_thread) l) at e in absurd (false≢true never))
    ]

    object_is : (m : ℕ) (o : Object) → list_all (object_in (length a.objects)) a.objects ≡ true → object_at a.objects m ≡ Some o → contents_below (length a.objects) o.contents ≡ true
    object_is m o all at = (let here = AllPass-from_list_all (object_in (length a.objects)) a.objects all m None (object_below a.objects m o at) in rw at at here)

-- a test that holds of each number below a bound
each_below : (p : ℕ → Bool) (n x : ℕ) → list_all p (range_with_len 0 n) ≡ true → x < n → p x ≡ true
each_below p n x h l =
    let long = length-range_with_len 0 n in
    let at : get_or (range_with_len 0 n) x 0 ≡ x = get_or-range_with_len 0 n x 0 l ∙ omega arith in
    subst (λ (y : ℕ). p y ≡ true) at (AllPass-from_list_all p (range_with_len 0 n) h x 0 (omega arith))

-- the first sets that grow to the live names, each as a list
abbrev pub in_list : List Bool → ℕ → Bool
in_list bs x = get_or bs x false

unfoldable pub grown : NamedHeap → ℕ → ℕ → List Bool
grown a g zero = []
grown a g (suc k) = map (step a g (in_list (grown a g k))) (names a)

grown-least : (a : NamedHeap) (g k : ℕ) (other : ℕ → Bool) → IsClosed a g other → (x : ℕ) → in_list (grown a g k) x ≡ true → other x ≡ true
unfolding grown
grown-least a g zero other closed x e = absurd (false≢true e)
grown-least a g (suc k) other closed x e = elim (cases_lt x (length a.objects)) [
  | inl l ↦ (let at : in_list (grown a g (suc k)) x ≡ step a g (in_list (grown a g k)) x =
      get_or-map-range_with_len (step a g (in_list (grown a g k))) 0 (length a.objects) x x false l (omega arith) in
      step_least a g (in_list (grown a g k)) other closed (grown-least a g k other closed) x (sym at ∙ e))
  | inr l ↦ (let past : in_list (grown a g (suc k)) x ≡ false = get_or_past _ x false (let long = length-map-range_with_len (step a g (in_list (grown a g k))) 0 (length a.objects) in omega arith) in
      absurd (false≢true (sym past ∙ e)))
]

-- a set is closed and least
abbrev pub is_live_set : NamedHeap → ℕ → ℕ → (ℕ → Bool) → Bool
is_live_set a g k set =
    names_below a && (list_all (λ x. not (step a g set x) || set x) (names a)
    && list_all (λ x. not (set x) || in_list (grown a g k) x) (names a))

-- what is not there does not remain
remains-below : (a : NamedHeap) (r : PassRecord) (x : ℕ) → remains a r x ≡ true → x < length a.objects
remains-below a r x e = elim (cases_lt x (length a.objects)) [
  | inl l ↦ l
  | inr l ↦ (let never : false ≡ true = rw (get_or_past a.objects x None l) at e in absurd (false≢true never))
]

implied : (x y : Bool) → (not x || y) ≡ true → x ≡ true → y ≡ true
implied true y h e = h
implied false y h e = absurd (false≢true e)

pub checked_live : (a : NamedHeap) (g k : ℕ) (r : PassRecord) → is_live_set a g k (remains a r) ≡ true → AreLiveNames a g (remains a r)
checked_live a g k r h =
    let parts = and_parts _ _ h in
    let rest = and_parts _ _ parts.1 in
    record {
      closed = fixed_closed a g (remains a r) (all_in a parts.0) (λ x e. elim (cases_Bool (remains a r x)) [
        | inl here ↦ here
        | inr gone ↦ implied (step a g (remains a r) x) (remains a r x) (each_below (λ x. not (step a g (remains a r) x) || remains a r x) (length a.objects) x rest.0 (step_below a g (remains a r) x e gone)) e
      ]);
      least = λ other closed x e. grown-least a g k other closed x
          (implied (remains a r x) _ (each_below (λ x. not (remains a r x) || in_list (grown a g k) x) (length a.objects) x rest.1 (remains-below a r x e)) e);
    }

-- moves of names that are to be moved, each once
abbrev pub are_movable : NamedHeap → ℕ → List Placing → Bool
are_movable a g moves = list_all (λ (m : Placing). is_of a g m.name && not (is_pinned a g m.name)) moves

pub checked_movable : (a : NamedHeap) (g : ℕ) (moves : List Placing) → are_movable a g moves ≡ true → All (λ (m : Placing). (is_of a g m.name ≡ true) × (is_pinned a g m.name ≡ false)) moves
checked_movable a g moves h k d l =
    let both = and_parts _ _ (AllPass-from_list_all (λ (m : Placing). is_of a g m.name && not (is_pinned a g m.name)) moves h k d l) in
    (both.0, not-true _ both.1)

-- a test of each pair of a list
abbrev pub all_pairs : {X : Type 0} → (X → X → Bool) → List X → Bool
all_pairs p [] = true
all_pairs p (x ∷ xs) = list_all (p x) xs && all_pairs p xs

pub checked_pairs : {X : Type 0} (p : X → X → Bool) (xs : List X) → all_pairs p xs ≡ true → AllPairs (λ x y. p x y ≡ true) xs
checked_pairs p [] h i j d l m = absurd (omega (arith, m))
checked_pairs p (x ∷ xs) h zero zero d l m = absurd (omega (arith, l))
checked_pairs p (x ∷ xs) h zero (suc j) d l m = AllPass-from_list_all (p x) xs (and_parts _ _ h).0 j d (omega (arith, m))
checked_pairs p (x ∷ xs) h (suc i) zero d l m = absurd (omega (arith, l))
checked_pairs p (x ∷ xs) h (suc i) (suc j) d l m = checked_pairs p xs (and_parts _ _ h).1 i j d (omega (arith, l)) (omega (arith, m))

pub checked_once : (moves : List Placing) → all_pairs (λ (m n : Placing). not (m.name == n.name)) moves ≡ true → AllPairs (λ (m n : Placing). m.name ≢ n.name) moves
checked_once moves h i j d l m = eqb-false _ _ (not-true _ (checked_pairs (λ (m n : Placing). not (m.name == n.name)) moves h i j d l m))

-- the pins
abbrev pub has_place : ℕ → Option Object → Bool
has_place index None = false
has_place index (Some o) = index == o.place

abbrev pub are_pins : NamedHeap → ℕ → List PinAt → Bool
are_pins a g pins =
    list_all (λ (q : PinAt). has_place q.index (object_at a.objects q.name) && is_pinned a g q.name) pins
    && (list_all (λ x. not (is_pinned a g x) || list_any (λ (q : PinAt). q.name == x) pins) (names a)
    && all_pairs (λ (q s : PinAt). nat_lt q.index s.index) pins)

pub checked_pins : (a : NamedHeap) (g : ℕ) (pins : List PinAt) → are_pins a g pins ≡ true → ArePins a g pins
checked_pins a g pins h =
    let parts = and_parts _ _ h in
    let rest = and_parts _ _ parts.1 in
    record {
      pinned = λ k d l. (let both = and_parts _ _ (AllPass-from_list_all (λ (q : PinAt). has_place q.index (object_at a.objects q.name) && is_pinned a g q.name) pins parts.0 k d l) in
          at_place (get_or pins k d) (object_at a.objects (get_or pins k d).name) refl both.0 both.1);
      all = λ x e. (let at = pinned_there a g x e in
          implied (is_pinned a g x) _ (each_below (λ x. not (is_pinned a g x) || list_any (λ (q : PinAt). q.name == x) pins) (length a.objects) x rest.0 (object_below a.objects x at.0 at.1)) e);
      ascending = λ i j d l m. ltb-true _ _ (checked_pairs (λ (q s : PinAt). nat_lt q.index s.index) pins rest.1 i j d l m);
    }
  where
    at_place : (q : PinAt) (o : Option Object) → object_at a.objects q.name ≡ o → has_place q.index o ≡ true → is_pinned a g q.name ≡ true →
        (o : Object) × (object_at a.objects q.name ≡ Some o) × (q.index ≡ o.place) × (is_pinned a g q.name ≡ true)
    at_place q None at e pinned = absurd (false≢true e)
    at_place q (Some o) at e pinned = (o, at, eqb-true q.index o.place e, pinned)
