-- How many objects of a generation begin below an end: a page more adds the objects that its walk finds.
use Rattle.std.proofs.Common.{◌≡◌, ℕ, suc, ◌+◌, ◌*◌, ◌/◌, ◌<◌, ◌≤◌, List, [], ◌∷◌, map, length, get_or, Option, Some, None, Bool, true, false, nat_eq, nat_lt, inl, inr, refl, sym, ◌∙◌, subst, ap, arith}
use Rattle.std.proofs.lemmas.Bool.{cases_eq, cases_lt, cases_Bool, and_parts, and_from, or_cases, or_left, or_right, eq-eqb, ne_eqb, eqb-true, lt-ltb, le-ltb, ltb-true, not-true, not_from_false, false≢true}
use Rattle.std.proofs.lemmas.List.{get_or_past}
use Rattle.std.proofs.lemmas.List.Elements.{All-head, All-tail}
use Rattle.std.proofs.lemmas.Option.{same_Some}
use Rattle.std.specs.List.{list_any}
use Rattle.std.specs.Prelude.{All, AllPairs, Contains, ◌==◌, ◌&&◌, ◌||◌, not, count_by}
use Rattle.heap_terms.specs.Generations.{names}
use Rattle.heap_terms.specs.Heap.{NamedHeap, object_at, entry_at}
use Rattle.heap_terms.specs.LaidOut.{ObjectStart, start_of, HasObject, AreHeapsObjects}
use Rattle.heap_terms.specs.Objects.{Object}
use Rattle.heap_terms.specs.Sound.{IsSound}
use Rattle.object_walk.proofs.Places.{words_least}
use Rattle.object_walk.proofs.Searched.{contains_cases, contains_none}
use Rattle.ambiguous_roots.specs.Pinning.{is_walked, begins_before, how_many_before}
use Rattle.ambiguous_roots.proofs.Counting.{count-same, count-none, count-parts, is_or, count-one}
use Rattle.ambiguous_roots.proofs.OnPages.{walked_of, unwalked_none}

-- two objects at one place are one
pub same_name : (a : NamedHeap) → IsSound a → (x y : ℕ) (o q : Object) → object_at a.objects x ≡ Some o → object_at a.objects y ≡ Some q → o.place ≡ q.place → x ≡ y
same_name a sound x y o q e f same = elim (cases_eq x y) [
  | inl is ↦ is
  | inr not ↦ (let m = words_least o in let n = words_least q in
      elim (sound.apart x y o q not e f) [ inl l ↦ absurd (omega arith) | inr l ↦ absurd (omega arith) ])
]

abbrev start_index : ObjectStart → ℕ
start_index s = s.index

-- whether an object begins at one of some starts
abbrev is_at : List ObjectStart → Option Object → Bool
is_at starts None = false
is_at starts (Some o) = list_any (nat_eq o.place) (map start_index starts)

below : (objects : List (Option Object)) (name : ℕ) (o : Object) → object_at objects name ≡ Some o → name < length objects
below objects name o e = elim (cases_lt name (length objects)) [
  | inl l ↦ l
  | inr l ↦ (let none : None ≡ Some o = rw (get_or_past objects name None l) at e in cc)
]

-- one start more is one name more
one-more : (a : NamedHeap) → IsSound a → (s : ObjectStart) (starts : List ObjectStart) (y : ℕ) (o : Object) → object_at a.objects y ≡ Some o → s.index ≡ o.place → (x : ℕ) →
    is_at (s ∷ starts) (object_at a.objects x) ≡ is_or y (λ z. is_at starts (object_at a.objects z)) x
one-more a sound s starts y o e here x = go (object_at a.objects x) refl
  where
    go : (q : Option Object) → object_at a.objects x ≡ q → is_at (s ∷ starts) (object_at a.objects x) ≡ is_or y (λ z. is_at starts (object_at a.objects z)) x
    go None f =
        let other : (y == x) ≡ false = ne_eqb y x (λ same. let never : None ≡ Some o = sym f ∙ ap (object_at a.objects) (sym same) ∙ e in cc) in
        ap (is_at (s ∷ starts)) f ∙ sym (ap (λ (b : Bool). b || is_at starts (object_at a.objects x)) other ∙ ap (is_at starts) f)
    go (Some q) f = ap (is_at (s ∷ starts)) f ∙ ap (λ (b : Bool). b || list_any (nat_eq q.place) (map start_index starts)) first ∙ ap (λ (r : Option Object). (y == x) || is_at starts r) (sym f)
      where
        first : nat_eq q.place s.index ≡ (y == x)
        first = elim (cases_eq y x) [
          | inl same ↦ (let one : q ≡ o = same_Some q o (sym f ∙ ap (object_at a.objects) (sym same) ∙ e) in
              eq-eqb q.place s.index (ap (λ (r : Object). r.place) one ∙ sym here) ∙ sym (eq-eqb y x same))
          | inr apart ↦ ne_eqb q.place s.index (λ same. apart (sym (same_name a sound x y q o f e (same ∙ here)))) ∙ sym (ne_eqb y x apart)
        ]

none-behind : (index : ℕ) (starts : List ObjectStart) → All (λ (s : ObjectStart). index < s.index) starts → list_any (nat_eq index) (map start_index starts) ≡ false
none-behind index [] up = refl
none-behind index (s ∷ starts) up =
    let first = All-head (λ (s : ObjectStart). index < s.index) s starts up in
    let other : nat_eq index s.index ≡ false = ne_eqb index s.index (λ same. omega arith) in
    rw other (none-behind index starts (All-tail (λ (s : ObjectStart). index < s.index) s starts up))

count-starts : (a : NamedHeap) → IsSound a → (starts : List ObjectStart) → All (HasObject a) starts → AllPairs (λ (s t : ObjectStart). s.index < t.index) starts →
    count_by (λ x. is_at starts (object_at a.objects x)) (names a) ≡ length starts
count-starts a sound [] each up = count-none (λ x. is_at [] (object_at a.objects x)) (names a) (λ x. none (object_at a.objects x))
  where
    none : (q : Option Object) → is_at [] q ≡ false
    none None = refl
    none (Some o) = refl
count-starts a sound (s ∷ starts) each up =
    let has = All-head (HasObject a) s starts each in
    let here : s.index ≡ has.1.place = ap start_index has.3 in
    let rest = count-starts a sound starts (All-tail (HasObject a) s starts each) (λ i j d l m. up (suc i) (suc j) d (omega arith) (omega arith)) in
    let new : is_at starts (object_at a.objects has.0) ≡ false =
    ap (is_at starts) has.2 ∙ none-behind has.1.place starts (λ i d l. subst (λ (p : ℕ). p < (get_or starts i d).index) here (up 0 (suc i) d (omega arith) (omega arith))) in
    let inside = below a.objects has.0 has.1 has.2 in
    let same = count-same (λ x. is_at (s ∷ starts) (object_at a.objects x)) (is_or has.0 (λ x. is_at starts (object_at a.objects x))) (names a) (one-more a sound s starts has.0 has.1 has.2 here) in
    let one = count-one has.0 0 (length a.objects) (λ x. is_at starts (object_at a.objects x)) new (omega arith) (omega arith) in
    omega (arith, same, one, rest)

-- what begins below an end begins below a later one
before-more : (g end more : ℕ) → end ≤ more → (q : Option Object) → (begins_before g more q && begins_before g end q) ≡ begins_before g end q
before-more g end more later None = refl
before-more g end more later (Some o) = go (o.generation == g)
  where
    go : (b : Bool) → ((b && nat_lt o.place more) && (b && nat_lt o.place end)) ≡ (b && nat_lt o.place end)
    go false = refl
    go true = elim (cases_lt o.place end) [
      | inl l ↦ (let here = lt-ltb o.place end l in let there = lt-ltb o.place more (omega arith) in rw (here, there) refl)
      | inr l ↦ (let here = le-ltb o.place end l in rw here (elim (cases_Bool (nat_lt o.place more)) [ inl m ↦ rw m refl | inr m ↦ rw m refl ]))
    ]

-- those between the two ends
between : ℕ → ℕ → ℕ → Option Object → Bool
between g end more q = begins_before g more q && not (begins_before g end q)

how_many-more : (a : NamedHeap) (g end more : ℕ) → end ≤ more → how_many_before a g more ≡ how_many_before a g end + count_by (λ x. between g end more (object_at a.objects x)) (names a)
unfolding between
how_many-more a g end more later =
    let parts = count-parts (λ x. begins_before g more (object_at a.objects x)) (λ x. begins_before g end (object_at a.objects x)) (names a) in
    let same = count-same (λ x. begins_before g more (object_at a.objects x) && begins_before g end (object_at a.objects x)) (λ x. begins_before g end (object_at a.objects x)) (names a)
    (λ x. before-more g end more later (object_at a.objects x)) in
    omega (arith, parts, same)

between-is : (g end more : ℕ) (o : Object) → between g end more (Some o) ≡ true → (o.generation ≡ g) × (end ≤ o.place) × (o.place < more)
unfolding between
between-is g end more o e =
    let both = and_parts (begins_before g more (Some o)) (not (begins_before g end (Some o))) e in
    let first = and_parts (o.generation == g) (nat_lt o.place more) both.0 in
    let not_yet : begins_before g end (Some o) ≡ false = not-true (begins_before g end (Some o)) both.1 in (
      eqb-true o.generation g first.0,
      elim (cases_lt o.place end) [
        | inr l ↦ l
        | inl l ↦ absurd (false≢true (sym not_yet ∙ and_from (o.generation == g) (nat_lt o.place end) first.0 (lt-ltb o.place end l)))
      ],
      ltb-true o.place more first.1,
    )

is-between : (g end more : ℕ) (o : Object) → o.generation ≡ g → end ≤ o.place → o.place < more → between g end more (Some o) ≡ true
unfolding between
is-between g end more o of_it low high =
    and_from (begins_before g more (Some o)) (not (begins_before g end (Some o)))
    (and_from (o.generation == g) (nat_lt o.place more) (eq-eqb o.generation g of_it) (lt-ltb o.place more high))
    (not_from_false (begins_before g end (Some o)) (go (o.generation == g)))
  where
    go : (b : Bool) → (b && nat_lt o.place end) ≡ false
    go false = refl
    go true = le-ltb o.place end low

between-none : (g end more : ℕ) → between g end more None ≡ false
unfolding between
between-none g end more = refl

-- two tests agree where each gives the other
both-ways : (b c : Bool) → (b ≡ true → c ≡ true) → (c ≡ true → b ≡ true) → b ≡ c
both-ways true c there back = sym (there refl)
both-ways false true there back = absurd (false≢true (back refl))
both-ways false false there back = refl

has-index : (starts : List ObjectStart) (s : ObjectStart) → Contains starts s → list_any (nat_eq s.index) (map start_index starts) ≡ true
has-index [] s c = absurd (contains_none s c)
has-index (t ∷ starts) s c = elim (contains_cases s t starts c) [
  | inl same ↦ or_left (nat_eq s.index t.index) (list_any (nat_eq s.index) (map start_index starts)) (eq-eqb s.index t.index (ap start_index (sym same)))
  | inr later ↦ or_right (nat_eq s.index t.index) (list_any (nat_eq s.index) (map start_index starts)) (has-index starts s later)
]

index-has : (P : ObjectStart → Type 0) (starts : List ObjectStart) (index : ℕ) → All P starts → list_any (nat_eq index) (map start_index starts) ≡ true → (s : ObjectStart) × P s × (s.index ≡ index)
index-has P [] index all e = absurd (false≢true e)
index-has P (t ∷ starts) index all e = elim (or_cases (nat_eq index t.index) (list_any (nat_eq index) (map start_index starts)) e) [
  | inl here ↦ (t, All-head P t starts all, sym (eqb-true index t.index here))
  | inr later ↦ index-has P starts index (All-tail P t starts all) later
]

module _ (a : NamedHeap) (sound : IsSound a) (g page : ℕ) where
  -- a page that is walked adds what its walk meets
  pub how_many-walked : (starts : List ObjectStart) → AreHeapsObjects a (512 * page) (512 * (page + 1)) starts → is_walked (entry_at a.pages page) page g ≡ true →
      how_many_before a g (512 * (page + 1)) ≡ how_many_before a g (512 * page) + length starts
  how_many-walked starts h walked =
      let more = how_many-more a g (512 * page) (512 * (page + 1)) (omega arith) in
      let same = count-same (λ x. between g (512 * page) (512 * (page + 1)) (object_at a.objects x)) (λ x. is_at starts (object_at a.objects x)) (names a) agree in
      let all = count-starts a sound starts (λ i d l. (h.each i d l).0) h.ascending in
      omega (arith, more, same, all)
    where
      agree : (x : ℕ) → between g (512 * page) (512 * (page + 1)) (object_at a.objects x) ≡ is_at starts (object_at a.objects x)
      agree x = go (object_at a.objects x) refl
        where
          there : (o : Object) → object_at a.objects x ≡ Some o → between g (512 * page) (512 * (page + 1)) (Some o) ≡ true → is_at starts (Some o) ≡ true
          there o e b = (let is = between-is g (512 * page) (512 * (page + 1)) o b in has-index starts (start_of o) (h.all x o e is.1 is.2))

          back : (o : Object) → object_at a.objects x ≡ Some o → is_at starts (Some o) ≡ true → between g (512 * page) (512 * (page + 1)) (Some o) ≡ true
          back o e b =
              let found = index-has (λ (s : ObjectStart). HasObject a s × (512 * page ≤ s.index) × (s.index < 512 * (page + 1))) starts o.place h.each b in
              let low = found.1.1 in
              let high = found.1.2 in
              let here = found.2 in
              let at : o.place / 512 ≡ page = omega arith in
              is-between g (512 * page) (512 * (page + 1)) o (walked_of a page g x o sound e at walked) (omega arith) (omega arith)

          go : (q : Option Object) → object_at a.objects x ≡ q → between g (512 * page) (512 * (page + 1)) (object_at a.objects x) ≡ is_at starts (object_at a.objects x)
          go None e = ap (between g (512 * page) (512 * (page + 1))) e ∙ between-none g (512 * page) (512 * (page + 1)) ∙ sym (ap (is_at starts) e)
          go (Some o) e = ap (between g (512 * page) (512 * (page + 1))) e
              ∙ both-ways (between g (512 * page) (512 * (page + 1)) (Some o)) (is_at starts (Some o)) (there o e) (back o e) ∙ sym (ap (is_at starts) e)

  -- any other adds nothing
  pub how_many-passed : is_walked (entry_at a.pages page) page g ≡ false → how_many_before a g (512 * (page + 1)) ≡ how_many_before a g (512 * page)
  how_many-passed passed =
      let more = how_many-more a g (512 * page) (512 * (page + 1)) (omega arith) in
      let none = count-none (λ x. between g (512 * page) (512 * (page + 1)) (object_at a.objects x)) (names a) (λ x. go x (object_at a.objects x) refl) in
      omega (arith, more, none)
    where
      go : (x : ℕ) (q : Option Object) → object_at a.objects x ≡ q → between g (512 * page) (512 * (page + 1)) (object_at a.objects x) ≡ false
      go x None e = ap (between g (512 * page) (512 * (page + 1))) e ∙ between-none g (512 * page) (512 * (page + 1))
      go x (Some o) e = ap (between g (512 * page) (512 * (page + 1))) e ∙ (elim (cases_Bool (between g (512 * page) (512 * (page + 1)) (Some o))) [
        | inr none ↦ none
        | inl b ↦ (let is = between-is g (512 * page) (512 * (page + 1)) o b in
            let low = is.1 in
            let high = is.2 in
            let at : o.place / 512 ≡ page = omega arith in
            absurd (unwalked_none a page g x o sound e at passed is.0))
      ])
