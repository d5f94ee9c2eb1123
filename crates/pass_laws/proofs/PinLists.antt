-- The pinned names in the order of their indices.
use Rattle.std.proofs.Common.{◌≡◌, ℕ, zero, suc, ◌+◌, ◌<◌, ◌≤◌, List, [], ◌∷◌, length, Option, Some, None, Bool, true, false, inl, inr, refl, sym, ◌∙◌, subst, ap, arith}
use Rattle.std.proofs.lemmas.Bool.{cases_eq, cases_Bool, and_parts, or_left, or_right, leb-true, leb-false, false≢true, eq-eqb}
use Rattle.std.proofs.lemmas.List.Elements.{All-nil, All-cons, All-head, All-tail, All-weaker}
use Rattle.std.proofs.lemmas.List.Kept.{AllPairs-cons}
use Rattle.std.specs.List.{list_any, range_with_len}
use Rattle.std.specs.Prelude.{All, AllPairs, ◌||◌, ◌==◌, ◌≢◌, if◌then◌else◌, nat_le}
use Rattle.heap_terms.specs.declared.events.PinAt.{PinAt}
use Rattle.heap_terms.specs.Generations.{has_generation, is_of, names}
use Rattle.heap_terms.specs.Heap.{NamedHeap, object_at}
use Rattle.heap_terms.specs.Objects.{Object}
use Rattle.heap_terms.specs.Passes.{ArePins}
use Rattle.heap_terms.specs.Roots.{is_pinned, is_hit}
use Rattle.heap_terms.specs.Sound.{IsSound}
use Rattle.pass_laws.proofs.LiveNames.{object_below}
use Rattle.pass_laws.proofs.Sizes.{words_least}

-- into a list that ascends
inserted : PinAt → List PinAt → List PinAt
inserted q [] = q ∷ []
inserted q (s ∷ rest) = if nat_le q.index s.index then q ∷ s ∷ rest else s ∷ inserted q rest

-- each index of a list is above a number, and a list ascends
abbrev Above : ℕ → List PinAt → Type 0
Above n xs = All (λ (s : PinAt). n < s.index) xs

Ascends : List PinAt → Type 0
Ascends xs = AllPairs (λ (q s : PinAt). q.index < s.index) xs

AllPairs-head : {X : Type 0} (R : X → X → Type 0) (x : X) (xs : List X) → AllPairs R (x ∷ xs) → All (R x) xs
AllPairs-head R x xs h k d l = h 0 (suc k) d (omega arith) (omega arith)

AllPairs-tail : {X : Type 0} (R : X → X → Type 0) (x : X) (xs : List X) → AllPairs R (x ∷ xs) → AllPairs R xs
AllPairs-tail R x xs h i j d l m = h (suc i) (suc j) d (omega arith) (omega arith)

inserted-All : (P : PinAt → Type 0) (q : PinAt) (xs : List PinAt) → P q → All P xs → All P (inserted q xs)
unfolding inserted
inserted-All P q [] here all = All-cons P q [] here all
inserted-All P q (s ∷ rest) here all = by_order (nat_le q.index s.index) (inserted-All P q rest here (All-tail P s rest all))
  where
    by_order : (b : Bool) → All P (inserted q rest) → All P (if b then q ∷ s ∷ rest else s ∷ inserted q rest)
    by_order true more = All-cons P q (s ∷ rest) here all
    by_order false more = All-cons P s (inserted q rest) (All-head P s rest all) more

inserted-any : (p : PinAt → Bool) (q : PinAt) (xs : List PinAt) → list_any p (inserted q xs) ≡ (p q || list_any p xs)
unfolding inserted
inserted-any p q [] = refl
inserted-any p q (s ∷ rest) = by_order (nat_le q.index s.index) (inserted-any p q rest)
  where
    swap_or : (x y z : Bool) → (x || (y || z)) ≡ (y || (x || z))
    swap_or true true z = refl
    swap_or true false z = refl
    swap_or false y z = refl

    by_order : (b : Bool) → list_any p (inserted q rest) ≡ (p q || list_any p rest) → list_any p (if b then q ∷ s ∷ rest else s ∷ inserted q rest) ≡ (p q || (p s || list_any p rest))
    by_order true same = refl
    by_order false same = ap (λ (b : Bool). p s || b) same ∙ swap_or (p s) (p q) (list_any p rest)

inserted-ascends : (q : PinAt) (xs : List PinAt) → All (λ (s : PinAt). q.index ≢ s.index) xs → Ascends xs → Ascends (inserted q xs)
unfolding inserted Ascends
inserted-ascends q [] apart up = AllPairs-cons (λ (q s : PinAt). q.index < s.index) q [] (All-nil (λ (s : PinAt). q.index < s.index)) up
inserted-ascends q (s ∷ rest) apart up = elim (cases_Bool (nat_le q.index s.index)) [
  | inl low ↦ (let l = leb-true q.index s.index low in
      let first = All-head (λ (s : PinAt). q.index ≢ s.index) s rest apart in
      let below : q.index < s.index = omega arith in
      let above : Above s.index rest = AllPairs-head (λ (q s : PinAt). q.index < s.index) s rest up in
      rw low (AllPairs-cons (λ (q s : PinAt). q.index < s.index) q (s ∷ rest)
      (All-cons (λ (x : PinAt). q.index < x.index) s rest below (All-weaker (λ (x : PinAt). s.index < x.index) (λ (x : PinAt). q.index < x.index) (λ x h. omega arith) rest above)) up))
  | inr high ↦ (let l = leb-false q.index s.index high in
      let above : Above s.index rest = AllPairs-head (λ (q s : PinAt). q.index < s.index) s rest up in
      rw high (AllPairs-cons (λ (q s : PinAt). q.index < s.index) s (inserted q rest) (inserted-All (λ (x : PinAt). s.index < x.index) q rest l above)
      (inserted-ascends q rest (All-tail (λ (s : PinAt). q.index ≢ s.index) s rest apart) (AllPairs-tail (λ (q s : PinAt). q.index < s.index) s rest up))))
]

-- the place of an object that is there
place_of : Option Object → ℕ
place_of None = 0
place_of (Some o) = o.place

-- the pinned names of a list
pins_in : NamedHeap → ℕ → List ℕ → List PinAt
pins_in a g [] = []
pins_in a g (x ∷ xs) = if is_pinned a g x then inserted (record { name = x; index = place_of (object_at a.objects x) }) (pins_in a g xs) else pins_in a g xs

-- what holds of each
record IsPinFrom (a : NamedHeap) (g from : ℕ) (q : PinAt) : Type 0 where
  object : Object
  there : object_at a.objects q.name ≡ Some object
  place : q.index ≡ object.place
  pinned : is_pinned a g q.name ≡ true
  later : from ≤ q.name

pub pinned_there : (a : NamedHeap) (g x : ℕ) → is_pinned a g x ≡ true → (o : Object) × (object_at a.objects x ≡ Some o)
pinned_there a g x e = go (object_at a.objects x) refl (and_parts (is_of a g x) (is_hit a x) e).0
  where
    go : (q : Option Object) → object_at a.objects x ≡ q → has_generation g q ≡ true → (o : Object) × (object_at a.objects x ≡ Some o)
    go None at h = absurd (false≢true h)
    go (Some o) at h = (o, at)

pin_from : (a : NamedHeap) (g x : ℕ) → is_pinned a g x ≡ true → IsPinFrom a g x (record { name = x; index = place_of (object_at a.objects x) })
unfolding place_of
pin_from a g x e =
    let at = pinned_there a g x e in
    record { object = at.0; there = at.1; place = rw at.1 refl; pinned = e; later = omega arith }

-- two objects in one place are one
one_place : (a : NamedHeap) → IsSound a → (x y : ℕ) (o q : Object) → x ≢ y → object_at a.objects x ≡ Some o → object_at a.objects y ≡ Some q → o.place ≢ q.place
one_place a sound x y o q apart e f same = elim (sound.apart x y o q apart e f) [
  | inl before ↦ (let m = words_least o in omega arith)
  | inr behind ↦ (let m = words_least q in omega arith)
]

pins-from : (a : NamedHeap) (g : ℕ) (from n : ℕ) → All (IsPinFrom a g from) (pins_in a g (range_with_len from n))
unfolding pins_in
pins-from a g from zero = All-nil (IsPinFrom a g from)
pins-from a g from (suc n) =
    let rest = All-weaker (IsPinFrom a g (from + 1)) (IsPinFrom a g from) (λ q h. weaker q h) (pins_in a g (range_with_len (from + 1) n)) (pins-from a g (from + 1) n) in
    elim (cases_Bool (is_pinned a g from)) [
      | inl here ↦ rw here (inserted-All (IsPinFrom a g from) _ (pins_in a g (range_with_len (from + 1) n)) (pin_from a g from here) rest)
      | inr gone ↦ rw gone rest
    ]
  where
    weaker : (q : PinAt) → IsPinFrom a g (from + 1) q → IsPinFrom a g from q
    weaker q h = (let later = h.later in record { object = h.object; there = h.there; place = h.place; pinned = h.pinned; later = omega arith })

pins-ascend : (a : NamedHeap) → IsSound a → (g : ℕ) (from n : ℕ) → Ascends (pins_in a g (range_with_len from n))
unfolding pins_in Ascends
pins-ascend a sound g from zero = λ i j d l m. absurd (omega (arith, m))
pins-ascend a sound g from (suc n) =
    let rest = pins-ascend a sound g (from + 1) n in
    let each = pins-from a g (from + 1) n in
    elim (cases_Bool (is_pinned a g from)) [
      | inl here ↦ (let new = pin_from a g from here in
          rw here (inserted-ascends (record { name = from; index = place_of (object_at a.objects from) }) (pins_in a g (range_with_len (from + 1) n))
          (λ k d l. (let q = each k d l in
          let later = q.later in
          λ same. one_place a sound from _ new.object q.object (λ equal. omega arith) new.there q.there (sym new.place ∙ same ∙ q.place))) rest))
      | inr gone ↦ rw gone rest
    ]

pins-all : (a : NamedHeap) (g : ℕ) (from n x : ℕ) → is_pinned a g x ≡ true → from ≤ x → x < from + n → list_any (λ (q : PinAt). q.name == x) (pins_in a g (range_with_len from n)) ≡ true
unfolding pins_in
pins-all a g from zero x e low high = absurd (omega (arith, low, high))
pins-all a g from (suc n) x e low high = elim (cases_eq from x) [
  | inl same ↦ (let here : is_pinned a g from ≡ true = subst (λ (y : ℕ). is_pinned a g y ≡ true) (sym same) e in
      rw here (inserted-any (λ (q : PinAt). q.name == x) _ (pins_in a g (range_with_len (from + 1) n)) ∙ or_left (from == x) _ (eq-eqb from x same)))
  | inr apart ↦ (let rest = pins-all a g (from + 1) n x e (omega arith) (omega arith) in
      elim (cases_Bool (is_pinned a g from)) [
        | inl here ↦ rw here (inserted-any (λ (q : PinAt). q.name == x) _ (pins_in a g (range_with_len (from + 1) n)) ∙ or_right (from == x) _ rest)
        | inr gone ↦ rw gone rest
      ])
]

-- the pins of a record
pub pins_of : NamedHeap → ℕ → List PinAt
pins_of a g = pins_in a g (names a)

pub pins_are : (a : NamedHeap) → IsSound a → (g : ℕ) → ArePins a g (pins_of a g)
unfolding pins_of Ascends
pins_are a sound g = record {
  pinned = λ k d l. (let q = pins-from a g 0 (length a.objects) k d l in (q.object, q.there, q.place, q.pinned));
  all = λ x e. (let at = pinned_there a g x e in let below = object_below a.objects x at.0 at.1 in pins-all a g 0 (length a.objects) x e (omega arith) (omega arith));
  ascending = pins-ascend a sound g 0 (length a.objects);
}
