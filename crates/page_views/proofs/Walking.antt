-- Going over a page's words, from object to object.
use Rattle.std.proofs.Common.{◌≡◌, ◌≢◌, ℕ, ◌+◌, ◌-◌, ◌*◌, ◌/◌, ◌%◌, ◌<◌, ◌≤◌, List, [], ◌∷◌, ◌++◌, length, map, Some, None, true, false, inl, inr, refl, sym, ◌∙◌, ap, subst, arith, append_assoc, append-nil}
use Rattle.std.specs.Prelude.{All, ◌⊎◌}
use Rattle.std.specs.List.{Contains}
use Rattle.std.proofs.lemmas.Bool.{cases_eq, cases_lt, eq-eqb, ne_eqb}
use Rattle.std.proofs.lemmas.List.Elements.{All-weaker, All-contains}
use Rattle.heap_terms.specs.declared.answers.Item.{Item}
use Rattle.heap_terms.specs.declared.kinds.PageType.{PageType}
use Rattle.heap_terms.specs.declared.pages.Entry.{Entry}
use Rattle.heap_terms.specs.declared.pages.Entry.TheVariants.{Used}
use Rattle.heap_terms.specs.Heap.{NamedHeap, object_at, entry_at}
use Rattle.heap_terms.specs.LaidOut.{ObjectStart, HasObject, AreHeapsObjects, AreObjectsOn, laid_words, object_starts, start_of}
use Rattle.heap_terms.specs.Objects.{Object, words_of_object}
use Rattle.heap_terms.specs.OnPages.{IsOwned, BelongsTo, IsInRun}
use Rattle.heap_terms.specs.PageViews.{items_of}
use Rattle.heap_terms.specs.Sound.{IsSound}
use Rattle.heap_terms.specs.Stands.{WordsStand}
use Rattle.object_walk.specs.declared.found.Found.{Found}
use Rattle.object_walk.specs.Laws.{BeginsNoneIn, IsFirstObject}
use Rattle.object_walk.specs.Walks.{found_at}
use Rattle.object_walk.proofs.HeapWalks.{page_walked}
use Rattle.object_walk.proofs.InOrder.{first_object, no_object}
use Rattle.object_walk.proofs.Places.{words_least, ends_before}
use Rattle.page_views.specs.Seen.{IsSeen, gap_between}
use Rattle.page_views.proofs.Items.{items_between, items_after, IsGap, gap_items, object_items}

-- the items of the words between two objects
gap_is : (a : NamedHeap) (start end from to : ℕ) → start ≤ from → from ≤ to → to ≤ end → ((i : ℕ) → from ≤ i → i < to → ¬ IsOwned a.objects i) →
    (from ≡ start) ⊎ IsOwned a.objects (from - 1) → (to ≡ end) ⊎ IsOwned a.objects to → items_between a start end from (to - from) ≡ gap_between from to
gap_is a start end from to low order high none first last = elim (cases_eq from to) [
  | inl same ↦ (
      let e = eq-eqb from to same in
      let zero_long : to - from ≡ 0 = omega arith in
      rw (e, zero_long) refl)
  | inr other ↦ (
      let e = ne_eqb from to other in
      let at : from + (to - from) ≡ to = omega arith in
      let g : IsGap a start end from (to - from) = record {
        some = omega arith;
        low = low;
        high = omega arith;
        none = λ i l h. none i l (omega arith);
        first = first;
        last = subst (λ (x : ℕ). (x ≡ end) ⊎ IsOwned a.objects x) (sym at) last;
      } in
      rw e (gap_items a start end from (to - from) g))
]

-- no word before the next object belongs to one
clear : (a : NamedHeap) (from to : ℕ) → ((name : ℕ) (o : Object) → object_at a.objects name ≡ Some o → o.place < from → o.place + words_of_object o ≤ from) →
    BeginsNoneIn a from to → (i : ℕ) → from ≤ i → i < to → ¬ IsOwned a.objects i
clear a from to edge before i low high (name, o, there, belongs) =
    let begins = belongs.from in
    let ends = belongs.below in
    elim (cases_lt o.place from) [
      | inl lower ↦ (let done = edge name o there lower in omega arith)
      | inr behind ↦ before name o there behind (omega arith)
    ]

-- what is known of a page that is a run by itself, with the words from `start` on up to `end`
pub record IsStretch (a : NamedHeap) (start end : ℕ) : Type 0 where
  pub sound : IsSound a
  pub within : (name : ℕ) (o : Object) → object_at a.objects name ≡ Some o → start ≤ o.place → o.place < end → o.place + words_of_object o ≤ end

-- over the next object
module _ (a : NamedHeap) (start end next : ℕ) (p : IsStretch a start end) (items : List Item) (s : ObjectStart) (others : List ObjectStart) (rest : List Found)
    (low : start ≤ next) (edge : (name : ℕ) (o : Object) → object_at a.objects name ≡ Some o → o.place < next → o.place + words_of_object o ≤ next)
    (first : (next ≡ start) ⊎ IsOwned a.objects (next - 1)) (items_are : items ≡ items_between a start end start (next - start))
    (h : IsFirstObject a next end s others) (rest_is : rest ≡ map found_at others) (name : ℕ) (o : Object) (there : object_at a.objects name ≡ Some o) (is : s ≡ start_of o) where
  at_place : s.index ≡ o.place
  at_place = ap (λ (x : ObjectStart). x.index) is

  behind_it : AreHeapsObjects a (o.place + words_of_object o) end others
  behind_it = record {
    each = λ k d inside. (let one = h.behind.each k d inside in (one.0, past _ one.0 one.1, one.2));
    all = λ x q is l e. (let least = words_least o in h.behind.all x q is (omega (arith, at_place)) e);
    ascending = h.behind.ascending;
  }
    where
      past : (t : ObjectStart) → HasObject a t → s.index + 1 ≤ t.index → o.place + words_of_object o ≤ t.index
      past t (x, q, is_q, start_is) later = elim (cases_eq x name) [
        | inl same ↦ (
            let both : Some q ≡ Some o = sym is_q ∙ ap (object_at a.objects) same ∙ there in
            let place : q.place ≡ o.place = (let e : q ≡ o = cc in ap (λ (z : Object). z.place) e) in
            let index = ap (λ (z : ObjectStart). z.index) start_is in
            absurd (omega (arith, at_place)))
        | inr other ↦ (
            let index = ap (λ (z : ObjectStart). z.index) start_is in
            let least = words_least q in
            elim (p.sound.apart x name q o other is_q there) [ inl m ↦ absurd (omega (arith, at_place)) | inr m ↦ omega arith ])
      ]

  pub seen_object : (f : Found) → f ≡ found_at s →
      IsSeen a start end (f.index + f.size) rest (items ++ gap_between next f.index ++ record { name = Some name; index = f.index; count = 0 } ∷ [])
  seen_object f found =
      let x = o.place in
      let n = words_of_object o in
      let least = words_least o in
      let from_on : next ≤ x = omega (arith, h.from_on, at_place) in
      let below : x < end = omega (arith, h.below, at_place) in
      let inside = p.within name o there (omega arith) below in
      let index_is : f.index ≡ x = ap (λ (g : Found). g.index) found ∙ at_place in
      let size_is : f.size ≡ n = ap (λ (g : Found). g.size) (found ∙ ap found_at is) in
      let owned : IsOwned a.objects x = (name, o, there, record { from = omega arith; below = omega arith }) in
      let before : BeginsNoneIn a next x = subst (λ (e : ℕ). BeginsNoneIn a next e) at_place h.before in
      let gap = gap_is a start end next x low from_on (omega arith) (clear a next x edge before) first (inr owned) in
      let one = object_items a p.sound start end name o there in
      let all : items_between a start end start (x + n - start) ≡ items ++ gap_between next x ++ record { name = Some name; index = x; count = 0 } ∷ [] =
      (let e : x + n - start ≡ (next - start) + (x - next) + n = omega arith in
      let to_next : start + (next - start) ≡ next = omega arith in
      let to_x : start + ((next - start) + (x - next)) ≡ x = omega arith in
      ap (items_between a start end start) e
      ∙ items_after a start end start ((next - start) + (x - next)) n
      ∙ ap (λ (ys : List Item). ys ++ items_between a start end (start + ((next - start) + (x - next))) n)
      (items_after a start end start (next - start) (x - next)
      ∙ ap (λ (ys : List Item). ys ++ items_between a start end (start + (next - start)) (x - next)) (sym items_are)
      ∙ ap (λ (y : ℕ). items ++ items_between a start end y (x - next)) to_next
      ∙ ap (λ (ys : List Item). items ++ ys) gap)
      ∙ ap (λ (y : ℕ). (items ++ gap_between next x) ++ items_between a start end y n) to_x
      ∙ ap (λ (ys : List Item). (items ++ gap_between next x) ++ ys) one) in
      rw (index_is, size_is) (record {
        starts = others;
        left_are = rest_is;
        objects = behind_it;
        low = omega arith;
        high = inside;
        edge = λ y q at l. elim (cases_eq y name) [
          | inl same ↦ (
              let both : Some q ≡ Some o = sym at ∙ ap (object_at a.objects) same ∙ there in
              let q_is : q ≡ o = cc in
              let ends = ap (λ (z : Object). z.place + words_of_object z) q_is in
              omega arith)
          | inr other ↦ elim (p.sound.apart y name q o other at there) [ inl m ↦ omega arith | inr m ↦ absurd (omega arith) ]
        ];
        first = inr (name, o, there, record { from = omega arith; below = omega arith });
        items_are = sym all;
      })

-- up to the end
pub seen_end : (a : NamedHeap) (start end next : ℕ) (items : List Item) → IsStretch a start end → IsSeen a start end next [] items →
    items ++ gap_between next end ≡ items_of a start (end - start)
seen_end a start end next items p h = by_starts h.starts h.left_are h.objects
  where
    by_starts : (starts : List ObjectStart) → [] ≡ map found_at starts → AreHeapsObjects a next end starts → items ++ gap_between next end ≡ items_of a start (end - start)
    by_starts (s ∷ others) e objects = cc
    by_starts [] e objects =
        let low = h.low in
        let high = h.high in
        let none = no_object a next end objects in
        let gap = gap_is a start end next end low high (omega arith) (clear a next end h.edge none) h.first (inl refl) in
        let to_next : start + (next - start) ≡ next = omega arith in
        let whole : end - start ≡ (next - start) + (end - next) = omega arith in
        let at_end : start + (end - start) ≡ end = omega arith in
        let all : items_between a start end start (end - start) ≡ items ++ gap_between next end =
        (ap (items_between a start end start) whole
        ∙ items_after a start end start (next - start) (end - next)
        ∙ ap (λ (ys : List Item). ys ++ items_between a start end (start + (next - start)) (end - next)) (sym h.items_are)
        ∙ ap (λ (y : ℕ). items ++ items_between a start end y (end - next)) to_next
        ∙ ap (λ (ys : List Item). items ++ ys) gap) in
        sym all ∙ ap (λ (y : ℕ). items_between a start y start (end - start)) (sym at_end)

-- the next object of a walk, and what is gone over with it
pub record IsNextObject (a : NamedHeap) (start end next : ℕ) (f : Found) (rest : List Found) (items : List Item) : Type 0 where
  pub name : ℕ
  pub o : Object
  pub there : object_at a.objects name ≡ Some o
  pub here : f.index ≡ o.place
  pub from_on : next ≤ f.index
  pub below : f.index < end
  pub ends : f.index + f.size ≤ end
  pub after : IsSeen a start end (f.index + f.size) rest (items ++ gap_between next f.index ++ record { name = Some name; index = f.index; count = 0 } ∷ [])

pub seen_next : (a : NamedHeap) (start end next : ℕ) (f : Found) (rest : List Found) (items : List Item) → IsStretch a start end →
    IsSeen a start end next (f ∷ rest) items → IsNextObject a start end next f rest items
seen_next a start end next f rest items p h = by_starts h.starts h.left_are h.objects
  where
    by_starts : (starts : List ObjectStart) → f ∷ rest ≡ map found_at starts → AreHeapsObjects a next end starts → IsNextObject a start end next f rest items
    by_starts [] e objects = cc
    by_starts (s ∷ others) e objects =
        let f_is : f ≡ found_at s = cc in
        let rest_is : rest ≡ map found_at others = cc in
        let first = first_object a next end s others objects in
        let name = first.there.0 in
        let o = first.there.1 in
        let there = first.there.2 in
        let is = first.there.3 in
        let s_at : s.index ≡ o.place = ap (λ (x : ObjectStart). x.index) is in
        let f_at : f.index ≡ s.index = ap (λ (g : Found). g.index) f_is in
        let size_is : f.size ≡ words_of_object o = ap (λ (g : Found). g.size) (f_is ∙ ap found_at is) in
        let low = h.low in
        let ends = p.within name o there (omega (arith, first.from_on)) (omega (arith, first.below)) in
        record {
          name = name;
          o = o;
          there = there;
          here = f_at ∙ s_at;
          from_on = omega (arith, first.from_on);
          below = omega (arith, first.below);
          ends = omega arith;
          after = seen_object a start end next p items s others rest low h.edge h.first h.items_are first rest_is name o there is f f_is;
        }
