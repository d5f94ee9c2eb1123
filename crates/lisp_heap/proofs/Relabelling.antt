-- The labels after the moves of a pass stand for the heap after it.
use Rattle.std.proofs.Common.{◌≡◌, ◌≢◌, ℕ, zero, suc, ◌+◌, ◌*◌, ◌/◌, ◌<◌, List, [], ◌∷◌, ◌++◌, length, take, refl, sym, ◌∙◌, subst, ap, arith, get_or, set, length-set, get_or-set_same, get_or-set_other, Option, Some, None, true, ◌⊎◌, inl, inr}
use Rattle.std.proofs.lemmas.Bool.{cases_Bool, cases_eq, eq-eqb, ne_eqb, or_left, or_right}
use Rattle.std.proofs.lemmas.List.{take_more}
use Rattle.std.proofs.lemmas.List.Folds.{list_any_at}
use Rattle.std.proofs.lemmas.Option.{same_Some}
use Rattle.std.specs.Prelude.{slice_index, AllPairs, ◌==◌, not, unwrap_or}
use Rattle.heap_terms.specs.declared.events.PassRecord.{PassRecord}
use Rattle.heap_terms.specs.declared.events.Placing.{Placing}
use Rattle.heap_terms.specs.Generations.{has_generation}
use Rattle.heap_terms.specs.Heap.{NamedHeap, object_at}
use Rattle.heap_terms.specs.Objects.{Object, kind_of, payload_of}
use Rattle.heap_terms.specs.Passes.{IsPass, after_pass, is_listed_pin, moved_to, remains, remains_at}
use Rattle.heap_terms.specs.WellFormed.{IsSound, AreApart}
use Rattle.heap_laws.proofs.AtPlaces.{IfSome-at, IfSome-from}
use Rattle.heap_laws.proofs.Allocating.{size_least}
use Rattle.pass_laws.proofs.AfterPages.{pages_long}
use Rattle.pass_laws.proofs.AfterPass.{object_then, remaining, remains_after}
use Rattle.lisp_heap.specs.Recording.{CanRelabel, labelled_at, labelled_by, relabelled}
use Rattle.lisp_heap.specs.Standing.{LabelsStand}

-- ---- moves one after the other

relabelled-append : (labels : List ℕ) (xs ys : List Placing) → relabelled labels (xs ++ ys) ≡ relabelled (relabelled labels xs) ys
relabelled-append labels [] ys = refl
relabelled-append labels (m ∷ xs) ys = relabelled-append (labelled_by labels m) xs ys

pub relabelled_more : (labels : List ℕ) (moves : List Placing) (i : ℕ) (d : Placing) → i < length moves →
    relabelled labels (take (i + 1) moves) ≡ labelled_by (relabelled labels (take i moves)) (get_or moves i d)
relabelled_more labels moves i d l =
    ap (relabelled labels) (take_more moves i d l) ∙ relabelled-append labels (take i moves) (get_or moves i d ∷ [])

pub labelled_long : (labels : List ℕ) (m : Placing) → length (labelled_by labels m) ≡ length labels
labelled_long labels m = by_new m.new
  where
    by_new : (o : Option ℕ) → length (labelled_at labels m.name o) ≡ length labels
    by_new None = refl
    by_new (Some index) = length-set labels (index / 2) m.name

-- ---- what stands at a place after all moves

-- no move goes to the double word j
abbrev NoneGoes : List Placing → ℕ → Type 0
NoneGoes moves j = (k : ℕ) (d : Placing) (x : ℕ) → k < length moves → (get_or moves k d).new ≡ Some x → x / 2 ≡ j → ⊥

-- the move of some name goes there
record Goes (moves : List Placing) (j name : ℕ) : Type 0 where
  k : ℕ
  there : k < length moves
  index : ℕ
  new : (d : Placing) → (get_or moves k d).new ≡ Some index
  at : index / 2 ≡ j
  named : (d : Placing) → name ≡ (get_or moves k d).name

relabelled_cases : (labels : List ℕ) (moves : List Placing) (j : ℕ) → j < length labels →
    ((get_or (relabelled labels moves) j 0 ≡ get_or labels j 0) × NoneGoes moves j) ⊎ Goes moves j (get_or (relabelled labels moves) j 0)
relabelled_cases labels [] j l = inl (refl, λ k d x m e at. omega (arith, m))
relabelled_cases labels (m ∷ rest) j l =
    let l' : j < length (labelled_by labels m) = omega (arith, labelled_long labels m, l) in
    elim (relabelled_cases (labelled_by labels m) rest j l') [
      | inr goes ↦ inr (record { k = suc goes.k; there = omega (arith, goes.there); index = goes.index; new = goes.new; at = goes.at; named = goes.named })
      | inl same ↦ by_new m.new refl same.0 same.1
    ]
  where
    with_first : (o : Option ℕ) → m.new ≡ o → ((x : ℕ) → o ≡ Some x → x / 2 ≡ j → ⊥) → NoneGoes rest j → NoneGoes (m ∷ rest) j
    with_first o is first none zero d x k e at = first x (sym is ∙ e) at
    with_first o is first none (suc i) d x k e at = none i d x (omega (arith, k)) e at

    by_new : (o : Option ℕ) → m.new ≡ o → get_or (relabelled labels (m ∷ rest)) j 0 ≡ get_or (labelled_by labels m) j 0 → NoneGoes rest j →
        ((get_or (relabelled labels (m ∷ rest)) j 0 ≡ get_or labels j 0) × NoneGoes (m ∷ rest) j) ⊎ Goes (m ∷ rest) j (get_or (relabelled labels (m ∷ rest)) j 0)
    by_new None is kept none = inl (
      kept ∙ ap (λ (o : Option ℕ). get_or (labelled_at labels m.name o) j 0) is,
      with_first None is (λ x e at. cc) none,
    )
    by_new (Some index) is kept none =
        let here : get_or (relabelled labels (m ∷ rest)) j 0 ≡ get_or (set labels (index / 2) m.name) j 0 = kept ∙ ap (λ (o : Option ℕ). get_or (labelled_at labels m.name o) j 0) is in
        elim (cases_eq j (index / 2)) [
          | inl same ↦ inr (record {
            k = 0;
            there = omega arith;
            index = index;
            new = λ d. is;
            at = sym same;
            named = λ d. here ∙ ap (λ (i : ℕ). get_or (set labels (index / 2) m.name) i 0) same ∙ get_or-set_same labels (index / 2) m.name 0 (subst (λ (i : ℕ). i < length labels) same l);
          })
          | inr apart ↦ inl (
            here ∙ get_or-set_other labels (index / 2) j m.name 0 apart,
            with_first (Some index) is (λ x e at. apart (sym at ∙ ap (λ (i : ℕ). i / 2) (sym (same_Some index x e)))) none,
          )
        ]

-- ---- where a name went

moved_entry : (moves : List Placing) (name index : ℕ) → moved_to moves name ≡ Some index →
    (k : ℕ) × (k < length moves) × ((d : Placing) → (get_or moves k d).new ≡ Some index)
moved_entry [] name index e = cc
moved_entry (m ∷ rest) name index e = elim (cases_Bool (m.name == name)) [
  | inl here ↦ (0, omega arith, λ d. rw here at e)
  | inr gone ↦ (let r = moved_entry rest name index (rw gone at e) in (suc r.0, omega (arith, r.1), r.2))
]

AllPairs-rest : (m : Placing) (rest : List Placing) → AllPairs (λ (x y : Placing). x.name ≢ y.name) (m ∷ rest) → AllPairs (λ (x y : Placing). x.name ≢ y.name) rest
AllPairs-rest m rest h i j d l k = h (suc i) (suc j) d (omega (arith, l)) (omega (arith, k))

pub moved_at : (moves : List Placing) (k : ℕ) (d : Placing) → AllPairs (λ (x y : Placing). x.name ≢ y.name) moves → k < length moves →
    moved_to moves (get_or moves k d).name ≡ (get_or moves k d).new
moved_at [] k d once l = absurd (omega (arith, l))
moved_at (m ∷ rest) zero d once l = rw (eq-eqb m.name m.name refl) refl
moved_at (m ∷ rest) (suc k) d once l =
    let below : k < length rest = omega (arith, l) in
    let apart : m.name ≢ (get_or rest k d).name = once 0 (suc k) d (omega arith) (omega (arith, below)) in
    rw (ne_eqb m.name (get_or rest k d).name apart) (moved_at rest k d (AllPairs-rest m rest once) below)

-- ---- a pass

module _ (a : NamedHeap) (g h : ℕ) (r : PassRecord) (sound : IsSound a) (pass : IsPass a g h r) where
  -- what is moved is there after the pass, at its new place
  record Arrives (k index : ℕ) : Type 0 where
    d : Placing
    o : Object
    there : object_at (after_pass a r).objects (get_or r.moves k d).name ≡ Some o
    place : o.place ≡ index

  listed : (name : ℕ) (o : Object) → object_at a.objects name ≡ Some o → (k : ℕ) (d : Placing) → k < length r.moves → (get_or r.moves k d).name ≡ name → remains a r name ≡ true
  listed name o there k d l is =
      ap (remains_at r name) there
      ∙ or_right (not (o.generation == r.generation)) _ (or_left _ (is_listed_pin r name) (list_any_at (λ (m : Placing). m.name == name) r.moves k d l (eq-eqb _ name is)))

  found : (g : ℕ) (q : Option Object) → has_generation g q ≡ true → (o : Object) × (q ≡ Some o)
  found g None e = cc
  found g (Some o) e = (o, refl)

  arrives : (k index : ℕ) (d : Placing) → k < length r.moves → (get_or r.moves k d).new ≡ Some index → Arrives k index
  arrives k index d l new =
      let name = (get_or r.moves k d).name in
      let was = found g (object_at a.objects name) (pass.movable k d l).0 in
      let goes : moved_to r.moves name ≡ Some index = moved_at r.moves k d pass.once l ∙ new in
      record {
        d = d;
        o = object_then a r name was.0;
        there = remains_after a g h r sound pass name was.0 was.1 (listed name was.0 was.1 k d l refl);
        place = ap (λ (o : Option ℕ). unwrap_or o was.0.place) goes;
      }

  module _ (after : IsSound (after_pass a r)) where
    half_inside : (name : ℕ) (o : Object) → object_at (after_pass a r).objects name ≡ Some o → o.place / 2 < 256 * length a.pages
    half_inside name o e =
        let placed = (after.objects name o e).placed in
        omega (arith, placed.inside, size_least (kind_of o.contents) (payload_of o.contents), pages_long a g h r sound pass)

    pub can_relabel : (labels : List ℕ) → length labels ≡ 256 * length a.pages → CanRelabel labels r.moves
    can_relabel labels long k d l = IfSome-from (λ (index : ℕ). index / 2 < length labels) (get_or r.moves k d).new (λ index new.
        (let there = arrives k index d l new in
        let inside = half_inside (get_or r.moves k there.d).name there.o there.there in
        let low : index / 2 < 256 * length a.pages = subst (λ (i : ℕ). i / 2 < 256 * length a.pages) there.place inside in
        omega (arith, low, long)))

    -- two objects whose first words are in one double word are one
    one_place : (x y : ℕ) (o q : Object) → object_at (after_pass a r).objects x ≡ Some o → object_at (after_pass a r).objects y ≡ Some q → o.place / 2 ≡ q.place / 2 → x ≡ y
    one_place x y o q e f same = elim (cases_eq x y) [
      | inl is ↦ is
      | inr apart ↦ absurd (no_room (after.apart x y o q apart e f))
    ]
      where
        no_room : AreApart o q → ⊥
        no_room (inl before) = omega (arith, before, size_least (kind_of o.contents) (payload_of o.contents), (after.objects x o e).placed.even, (after.objects y q f).placed.even, same)
        no_room (inr behind) = omega (arith, behind, size_least (kind_of q.contents) (payload_of q.contents), (after.objects x o e).placed.even, (after.objects y q f).placed.even, same)

    relabelled_long : (labels : List ℕ) (moves : List Placing) → length (relabelled labels moves) ≡ length labels
    relabelled_long labels [] = refl
    relabelled_long labels (m ∷ rest) = relabelled_long (labelled_by labels m) rest ∙ labelled_long labels m

    named_after : (labels : List ℕ) → LabelsStand a labels → (name : ℕ) (o : Object) → object_at (after_pass a r).objects name ≡ Some o →
        get_or (relabelled labels r.moves) (o.place / 2) 0 ≡ name
    named_after labels stand name o e =
        let inside = half_inside name o e in
        elim (relabelled_cases labels r.moves (o.place / 2) (omega (arith, inside, stand.long))) [
          | inr goes ↦ (
              let d : Placing = record { name = 0; old = 0; new = None } in
              let there = arrives goes.k goes.index d goes.there (goes.new d) in
              let same : there.o.place / 2 ≡ o.place / 2 = ap (λ (i : ℕ). i / 2) there.place ∙ goes.at in
              goes.named there.d ∙ one_place (get_or r.moves goes.k there.d).name name there.o o there.there e same)
          | inl kept ↦ (
              let was = remaining a g h r sound pass name o e in
              let place : o.place ≡ was.object.place = stays was.object (moved_to r.moves name) refl (ap (λ (q : Object). q.place) was.is) kept.1 in
              kept.0 ∙ ap (λ (i : ℕ). get_or labels (i / 2) 0) place
              ∙ IfSome-at (λ (q : Object). slice_index labels (q.place / 2) ≡ name) (object_at a.objects name) was.object was.there (stand.named name))
        ]
      where
        stays : (q : Object) (to : Option ℕ) → moved_to r.moves name ≡ to → o.place ≡ unwrap_or (moved_to r.moves name) q.place → NoneGoes r.moves (o.place / 2) → o.place ≡ q.place
        stays q None is at none = at ∙ ap (λ (x : Option ℕ). unwrap_or x q.place) is
        stays q (Some index) is at none =
            let entry = moved_entry r.moves name index is in
            let d : Placing = record { name = 0; old = 0; new = None } in
            let here : o.place ≡ index = at ∙ ap (λ (x : Option ℕ). unwrap_or x q.place) is in
            absurd (none entry.0 d index entry.1 (entry.2 d) (ap (λ (i : ℕ). i / 2) (sym here)))

    pub LabelsStand-pass : (labels : List ℕ) → LabelsStand a labels → LabelsStand (after_pass a r) (relabelled labels r.moves)
    LabelsStand-pass labels stand = record {
      long = relabelled_long labels r.moves ∙ stand.long ∙ ap (λ (n : ℕ). 256 * n) (sym (pages_long a g h r sound pass));
      named = λ name. IfSome-from (λ (o : Object). slice_index (relabelled labels r.moves) (o.place / 2) ≡ name) (object_at (after_pass a r).objects name)
          (λ o e. named_after labels stand name o e);
    }
