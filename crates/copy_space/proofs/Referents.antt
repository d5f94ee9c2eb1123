-- What a word refers to midway, told by its page and its mark.
use Rattle.std.proofs.Common.{◌≡◌, ◌≢◌, ℕ, ◌+◌, ◌*◌, ◌/◌, ◌%◌, ◌<◌, ◌≤◌, List, [], ◌∷◌, map, length, get_or, Option, Some, None, Bool, true, false, ◌⊎◌, inl, inr, refl, sym, ◌∙◌, ap, subst, nat_eq, arith}
use Rattle.std.proofs.lemmas.Bool.{cases_lt, cases_Bool, eqb-true, ne_eqb, false≢true}
use Rattle.std.proofs.lemmas.List.{get_or-map}
use Rattle.std.proofs.lemmas.Option.{same_Some}
use Rattle.std.specs.List.{list_any}
use Rattle.std.specs.Prelude.{IsSome, not, ◌||◌, ◌==◌}
use Rattle.heap_terms.specs.declared.cells.Value.{Value}
use Rattle.heap_terms.specs.declared.cells.Value.TheVariants.{Fix, Nil, Unbound, Ref}
use Rattle.heap_terms.specs.declared.events.Placing.{Placing}
use Rattle.heap_terms.specs.declared.kinds.Kind.{Kind}
use Rattle.heap_terms.specs.declared.kinds.Kind.TheVariants as kinds
use Rattle.heap_terms.specs.declared.pages.Entry.{Entry}
use Rattle.heap_terms.specs.declared.pages.Entry.TheVariants.{Free, Used}
use Rattle.heap_terms.specs.Generations.{is_of, has_generation}
use Rattle.heap_terms.specs.Heap.{NamedHeap, object_at, entry_at}
use Rattle.heap_terms.specs.Layout.{base_address, lowtag_of, reference_word}
use Rattle.heap_terms.specs.Live.{is_live}
use Rattle.heap_terms.specs.Living.{IsLivingOrUnbound}
use Rattle.heap_terms.specs.Objects.{Object, kind_of}
use Rattle.heap_terms.specs.OnPages.{IsPlaced}
use Rattle.heap_terms.specs.Passes.{moved_to}
use Rattle.heap_terms.specs.Placement.{scratch, placement}
use Rattle.heap_terms.specs.Spelling.{word_of_object}
use Rattle.lisp_words.specs.declared.pointers.Lowtag.{Lowtag}
use Rattle.lisp_words.specs.declared.pointers.Lowtag.TheVariants as lowtags
use Rattle.lisp_words.specs.Tagged.{IsTagged, tag_bits}
use Rattle.pass_laws.specs.Spread.{settled, moved_object}
use Rattle.pass_laws.proofs.Lookups.{found_at}
use Rattle.pass_laws.proofs.PassExists.{placement-names}
use Rattle.pass_laws.proofs.Sizes.{words_least}
use Rattle.pass_laws.proofs.Spreading.{is_in, moved_to-none}
use Rattle.copy_space.specs.declared.marks.Mark.{Mark}
use Rattle.copy_space.specs.declared.marks.Mark.TheVariants as marks
use Rattle.copy_space.specs.declared.notes.Move.{Move}
use Rattle.copy_space.specs.Marks.{mark_at, is_set}
use Rattle.copy_space.specs.Midway.{IsPlacedSoFar}
use Rattle.copy_space.specs.Moved.{new_of, has_move, now_at, objects_now, mark_for}
use Rattle.copy_space.specs.Pages.{is_page_of}
use Rattle.copy_space.specs.Settled.{is_settled, word_before, word_now, IsNewWord, IsEitherWord, IsWordOf}
use Rattle.copy_space.specs.State.{CopyState}
use Rattle.copy_space.proofs.Names.{now-there, now-at-name, new_of-none}
use Rattle.copy_space.proofs.Places.{Placed, placed-so-far, said, placed_now, placed_before, now_unmoved, page_kept, placed_page, now_even, now_inside}
use Rattle.copy_space.proofs.Values.{refers}

-- what a mark says of pins and moves
pub record SaysFresh (pins : List ℕ) (moves : List Move) (index : ℕ) : Type 0 where
  pub unpinned : list_any (nat_eq index) pins ≡ false
  pub unmoved : has_move moves index ≡ false

pub says-fresh : (pins : List ℕ) (moves : List Move) (index : ℕ) → mark_for pins moves index ≡ marks.Fresh → SaysFresh pins moves index
says-fresh pins moves index e = elim (cases_Bool (list_any (nat_eq index) pins)) [
  | inl pin ↦ (let never : marks.Pinned ≡ marks.Fresh = rw pin at e in absurd (set_not_fresh marks.Pinned refl never))
  | inr free ↦ elim (cases_Bool (has_move moves index)) [
    | inl has ↦ elim (cases_Bool (new_of moves index == index)) [
      | inl stay ↦ (let never : marks.Stayed ≡ marks.Fresh = rw (free, has, stay) at e in absurd (set_not_fresh marks.Stayed refl never))
      | inr gone ↦ (let never : marks.Moved ≡ marks.Fresh = rw (free, has, gone) at e in absurd (set_not_fresh marks.Moved refl never))
    ]
    | inr none ↦ record { unpinned = free; unmoved = none }
  ]
]
  where
    set_not_fresh : (m : Mark) → is_set m ≡ true → m ≡ marks.Fresh → ⊥
    set_not_fresh m on same = false≢true (ap is_set (sym same) ∙ on)

-- where the mark is set and not that of a move, the index is its own
abbrev pub is_moved : Mark → Bool
is_moved marks.Fresh = false
is_moved marks.Pinned = false
is_moved marks.Stayed = false
is_moved marks.Moved = true

pub says-here : (pins : List ℕ) (moves : List Move) (index : ℕ) → is_moved (mark_for pins moves index) ≡ false → (list_any (nat_eq index) pins ≡ true → has_move moves index ≡ false) →
    new_of moves index ≡ index
says-here pins moves index e pinned = elim (cases_Bool (list_any (nat_eq index) pins)) [
  | inl pin ↦ new_of-none moves index (pinned pin)
  | inr free ↦ elim (cases_Bool (has_move moves index)) [
    | inl has ↦ elim (cases_Bool (new_of moves index == index)) [
      | inl stay ↦ eqb-true (new_of moves index) index stay
      | inr gone ↦ absurd (false≢true (sym (rw (free, has, gone) at e)))
    ]
    | inr none ↦ new_of-none moves index none
  ]
]

tag_for : (kind : Kind) → (tag : Lowtag) × (tag_bits tag ≡ lowtag_of kind)
tag_for kinds.Cons = (lowtags.List, refl)
tag_for kinds.Vector = (lowtags.Other, refl)
tag_for kinds.Instance = (lowtags.Instance, refl)
tag_for kinds.Closure = (lowtags.Function, refl)
tag_for kinds.Words = (lowtags.Other, refl)
tag_for kinds.Weak = (lowtags.Other, refl)
tag_for kinds.Table = (lowtags.Other, refl)

some-there : (q : Option Object) → IsSome q → (o : Object) × (q ≡ Some o)
some-there None h = absurd (false≢true h)
some-there (Some o) h = (o, refl)

pub of-generation : (a : NamedHeap) (g x : ℕ) (o : Object) → object_at a.objects x ≡ Some o → is_of a g x ≡ true → o.generation ≡ g
of-generation a g x o e is = eqb-true o.generation g (ap (has_generation g) (sym e) ∙ is)

pub there-of : (a : NamedHeap) (g x : ℕ) → is_of a g x ≡ true → IsSome (object_at a.objects x)
there-of a g x is = go (object_at a.objects x) is
  where
    go : (q : Option Object) → has_generation g q ≡ true → IsSome q
    go None e = absurd (false≢true e)
    go (Some o) e = refl

module _ (a : NamedHeap) (s : CopyState) (h : IsPlacedSoFar a s) where
  abbrev pub ms : List Placing
  ms = (placement a h.order).moves

  pub its : Placed a s ms
  its = placed-so-far a s h

  -- the marks by place
  pub mark_is : (x : ℕ) (o : Object) → object_at a.objects x ≡ Some o → mark_at s.marks o.place ≡ mark_for s.pins s.moves o.place
  mark_is x o e =
      let even = (placed_before a s ms h.sound its x o e).even in
      let twice : 2 * (o.place / 2) ≡ o.place = omega arith in
      subst (λ (i : ℕ). mark_at s.marks i ≡ mark_for s.pins s.moves i) twice (h.marks (o.place / 2))

  -- each name among the moves is of the generation
  pub met_of : (x : ℕ) → is_in ms x ≡ true → is_of a s.pass.generation x ≡ true
  met_of x is =
      let found = found_at (λ (m : Placing). m.name == x) ms is in
      let names = placement-names a h.order (λ i l. there-of a s.pass.generation (get_or h.order i 0) (h.met i 0 l)) in
      let first : Placing = record { name = 0; old = 0; new = None } in
      let is_x : (get_or ms found.0 first).name ≡ x = eqb-true (get_or ms found.0 first).name x (found.2 first) in
      let at : get_or h.order found.0 0 ≡ x =
      ap (λ (xs : List ℕ). get_or xs found.0 0) (sym names) ∙ get_or-map (λ (m : Placing). m.name) ms found.0 first 0 found.1 ∙ is_x in
      let inside : found.0 < length h.order = elim (cases_lt found.0 (length h.order)) [
        | inl l ↦ l
        | inr l ↦ (let long : length (map (λ (m : Placing). m.name) ms) ≡ length h.order = ap length names in
            let same : length (map (λ (m : Placing). m.name) ms) ≡ length ms = length-map-names ms in
            let below = found.1 in absurd (omega arith))
      ] in
      subst (λ (y : ℕ). is_of a s.pass.generation y ≡ true) at (h.met found.0 0 inside)
    where
      length-map-names : (xs : List Placing) → length (map (λ (m : Placing). m.name) xs) ≡ length xs
      length-map-names [] = refl
      length-map-names (x ∷ xs) = omega (arith, length-map-names xs)

  -- so objects of other generations have not moved
  pub other_unmoved : (x : ℕ) (o : Object) → object_at a.objects x ≡ Some o → o.generation ≢ s.pass.generation → new_of s.moves o.place ≡ o.place
  other_unmoved x o e apart =
      now_unmoved a s ms h.sound its x o e (moved_to-none ms x (elim (cases_Bool (is_in ms x)) [
        | inl is ↦ absurd (apart (of-generation a s.pass.generation x o e (met_of x is)))
        | inr none ↦ none
      ]))

  -- pinned objects are not among the moves
  pub pinned_unmoved : (index : ℕ) → list_any (nat_eq index) s.pins ≡ true → has_move s.moves index ≡ false
  pinned_unmoved index pin = elim (cases_Bool (has_move s.moves index)) [
    | inr none ↦ none
    | inl has ↦ (let found = found_at (λ (m : Move). m.old == index) s.moves has in
        let first : Move = record { old = 0; new = 0 } in
        let at : (get_or s.moves found.0 first).old ≡ index = eqb-true (get_or s.moves found.0 first).old index (found.2 first) in
        let free = h.unpinned found.0 first found.1 in
        absurd (false≢true (sym free ∙ ap (λ (i : ℕ). list_any (nat_eq i) s.pins) at ∙ pin)))
  ]

  -- where the mark is not that of a move, the object is where it was
  pub here_unless_moved : (x : ℕ) (o : Object) → object_at a.objects x ≡ Some o → is_moved (mark_at s.marks o.place) ≡ false → new_of s.moves o.place ≡ o.place
  here_unless_moved x o e unmoved =
      says-here s.pins s.moves o.place (ap is_moved (sym (mark_is x o e)) ∙ unmoved) (pinned_unmoved o.place)

  pub settles-not : (x : ℕ) (o : Object) → object_at a.objects x ≡ Some o → is_settled a s x ≡ (not (o.generation == s.pass.generation) || is_set (mark_at s.marks o.place))
  settles-not x o e = rw e refl

  -- words of a reference before and now, where the object is where it was
  pub same_word : (x : ℕ) (o : Object) → object_at a.objects x ≡ Some o → new_of s.moves o.place ≡ o.place → word_now a s (Ref x) ≡ word_before a (Ref x)
  same_word x o e same =
      ap word_of_object (now-there a s.moves x o e) ∙ ap (λ (i : ℕ). reference_word i (kind_of o.contents)) same ∙ ap word_of_object (sym e)

  -- what a tagged word of a value refers to: its object was at the index, or is there now and settled
  pub record Referent (v : Value) (word index : ℕ) (tag : Lowtag) : Type 0 where
    pub name : ℕ
    pub o : Object
    pub is : v ≡ Ref name
    pub there : object_at a.objects name ≡ Some o
    pub tagged : tag_bits tag ≡ lowtag_of (kind_of o.contents)
    pub at : ((o.place ≡ index) × (word ≡ word_before a v)) ⊎ ((new_of s.moves o.place ≡ index) × IsNewWord a s v word)

  pub referent : (v : Value) (word index : ℕ) (tag : Lowtag) → IsWordOf a s v word → IsTagged word index tag → Referent v word index tag
  referent v word index tag w tagged = go w.either
    where
      now_living : (x : ℕ) → IsSome (object_at a.objects x) → IsSome (object_at (objects_now a s.moves) x)
      now_living x some = (let there = some-there (object_at a.objects x) some in subst (λ (q : Option Object). IsSome q) (sym (now-there a s.moves x there.0 there.1)) refl)

      living_now : (v : Value) → IsLivingOrUnbound a.objects v → IsLivingOrUnbound (objects_now a s.moves) v
      living_now (Fix n) l = l
      living_now Nil l = l
      living_now Unbound l = l
      living_now (Ref x) l = now_living x l

      before_of : (x : ℕ) (q : Object) → object_at (objects_now a s.moves) x ≡ Some q → (o : Object) × (object_at a.objects x ≡ Some o) × (q ≡ record o { place = new_of s.moves o.place })
      before_of x q e = from_now (object_at a.objects x) refl
        where
          from_now : (r : Option Object) → object_at a.objects x ≡ r → (o : Object) × (object_at a.objects x ≡ Some o) × (q ≡ record o { place = new_of s.moves o.place })
          from_now None f = (let never : None ≡ Some q = sym (now-at-name a s.moves x ∙ ap (now_at s.moves) f) ∙ e in cc)
          from_now (Some o) f = (o, f, same_Some q (record o { place = new_of s.moves o.place }) (sym e ∙ now-there a s.moves x o f))

      now_places_even : (x : ℕ) (q : Object) → object_at (objects_now a s.moves) x ≡ Some q → q.place % 2 ≡ 0
      now_places_even x q e =
          let o = before_of x q e in
          ap (λ (r : Object). r.place % 2) o.2 ∙ now_even a s ms h.sound its x o.0 o.1

      go : IsEitherWord a s v word → Referent v word index tag
      go (inl before) =
          let r = refers a.objects v word index tag w.living (λ x o e. (placed_before a s ms h.sound its x o e).even) before tagged in
          record { name = r.name; o = r.o; is = r.is; there = r.there; tagged = r.tagged; at = inl (r.here, before) }
      go (inr now) =
          let r = refers (objects_now a s.moves) v word index tag (living_now v w.living) now_places_even now.is tagged in
          let o = before_of r.name r.o r.there in
          record {
            name = r.name;
            o = o.0;
            is = r.is;
            there = o.1;
            tagged = r.tagged ∙ ap (λ (q : Object). lowtag_of (kind_of q.contents)) o.2;
            at = inr (ap (λ (q : Object). q.place) (sym o.2) ∙ r.here, now);
          }

  -- the page tells whether the object is of the generation, and then the word is the one before the pass
  pub record InGeneration (v : Value) (word index : ℕ) (tag : Lowtag) : Type 0 where
    pub name : ℕ
    pub o : Object
    pub is : v ≡ Ref name
    pub there : object_at a.objects name ≡ Some o
    pub tagged : tag_bits tag ≡ lowtag_of (kind_of o.contents)
    pub here : o.place ≡ index
    pub of_it : o.generation ≡ s.pass.generation
    pub before : word ≡ word_before a v

  page_of_place : (x : ℕ) (o : Object) → object_at a.objects x ≡ Some o → is_page_of (entry_at s.pages (o.place / 512)) o.generation ≡ true
  page_of_place x o e =
      let least = words_least o in
      let kept = page_kept a s ms h.sound its x o o.place e (omega arith) (omega arith) in
      ap (λ (t : Entry). is_page_of t o.generation) kept.0 ∙ kept.1

  one_generation : (t : Entry) (g k : ℕ) → is_page_of t g ≡ true → is_page_of t k ≡ true → g ≡ k
  one_generation Free g k e f = absurd (false≢true e)
  one_generation (Used ty n fill first pages) g k e f = sym (eqb-true n g e) ∙ eqb-true n k f

  at_place : (v : Value) (word index : ℕ) (tag : Lowtag) → (r : Referent v word index tag) → is_page_of (entry_at s.pages (index / 512)) s.pass.generation ≡ true →
      (r.o.place ≡ index) × (word ≡ word_before a v)
  at_place v word index tag r page = go r.at
    where
      here : (to : Option ℕ) → moved_to ms r.name ≡ to → new_of s.moves r.o.place ≡ index → IsNewWord a s v word → (r.o.place ≡ index) × (word ≡ word_before a v)
      here None e at now =
          let unmoved = now_unmoved a s ms h.sound its r.name r.o r.there e in
          (sym unmoved ∙ at, now.is ∙ ap (λ (u : Value). word_now a s u) r.is ∙ same_word r.name r.o r.there unmoved ∙ ap (λ (u : Value). word_before a u) (sym r.is))
      here (Some i) e at now =
          let place_is : new_of s.moves r.o.place ≡ i = (said a s ms h.sound its r.name r.o r.there).0 ∙ ap (λ (t : Option ℕ). (settled t r.o).place) e in
          let placed : IsPlaced s.pages (moved_object r.o i) = subst (λ (t : Option ℕ). IsPlaced s.pages (settled t r.o)) e (placed_now a s ms h.sound its r.name r.o r.there) in
          let least = words_least r.o in
          let taken = placed_page s.pages (moved_object r.o i) its.most placed i (omega arith) (omega arith) in
          let page_at : is_page_of (entry_at s.pages (i / 512)) s.pass.generation ≡ true = subst (λ (j : ℕ). is_page_of (entry_at s.pages (j / 512)) s.pass.generation ≡ true) (sym at ∙ place_is) page in
          let same = one_generation (entry_at s.pages (i / 512)) scratch s.pass.generation taken page_at in
          let bound = h.generation in
          absurd (omega (arith, same, bound))

      go : ((r.o.place ≡ index) × (word ≡ word_before a v)) ⊎ ((new_of s.moves r.o.place ≡ index) × IsNewWord a s v word) → (r.o.place ≡ index) × (word ≡ word_before a v)
      go (inl before) = before
      go (inr now) = here (moved_to ms r.name) refl now.0 now.1

  pub in_generation : (v : Value) (word index : ℕ) (tag : Lowtag) → IsWordOf a s v word → IsTagged word index tag →
      is_page_of (entry_at s.pages (index / 512)) s.pass.generation ≡ true → InGeneration v word index tag
  in_generation v word index tag w tagged page =
      let r = referent v word index tag w tagged in
      let at = at_place v word index tag r page in
      let page_at : is_page_of (entry_at s.pages (r.o.place / 512)) s.pass.generation ≡ true = subst (λ (j : ℕ). is_page_of (entry_at s.pages (j / 512)) s.pass.generation ≡ true) (sym at.0) page in
      record {
        name = r.name;
        o = r.o;
        is = r.is;
        there = r.there;
        tagged = r.tagged;
        here = at.0;
        of_it = one_generation (entry_at s.pages (r.o.place / 512)) r.o.generation s.pass.generation (page_of_place r.name r.o r.there) page_at;
        before = at.1;
      }

  -- else the value is settled and the word is its word from now on
  pub out_of_generation : (v : Value) (word index : ℕ) (tag : Lowtag) → IsWordOf a s v word → IsTagged word index tag →
      is_page_of (entry_at s.pages (index / 512)) s.pass.generation ≡ false → IsNewWord a s v word
  out_of_generation v word index tag w tagged page = go r.at
    where
      r : Referent v word index tag
      r = referent v word index tag w tagged

      go : ((r.o.place ≡ index) × (word ≡ word_before a v)) ⊎ ((new_of s.moves r.o.place ≡ index) × IsNewWord a s v word) → IsNewWord a s v word
      go (inr now) = now.1
      go (inl before) =
          let its_page = page_of_place r.name r.o r.there in
          let apart : r.o.generation ≢ s.pass.generation = λ same. false≢true (sym page ∙ subst (λ (j : ℕ). is_page_of (entry_at s.pages (j / 512)) s.pass.generation ≡ true) before.0
          (subst (λ (g : ℕ). is_page_of (entry_at s.pages (r.o.place / 512)) g ≡ true) same its_page)) in
          let other : (r.o.generation == s.pass.generation) ≡ false = ne_eqb r.o.generation s.pass.generation apart in
          let yes : is_settled a s r.name ≡ true = settles-not r.name r.o r.there ∙ rw other refl in
          record {
            settled = ap (λ (u : Value). is_live (is_settled a s) u) r.is ∙ yes;
            is = before.1 ∙ ap (λ (u : Value). word_before a u) r.is ∙ sym (same_word r.name r.o r.there (other_unmoved r.name r.o r.there apart)) ∙ ap (λ (u : Value). word_now a s u) (sym r.is);
          }

  -- a word that is no reference is that of a value which is none
  pub untagged : (v : Value) (word : ℕ) → IsWordOf a s v word → ((index : ℕ) (tag : Lowtag) → IsTagged word index tag → ⊥) → IsNewWord a s v word
  untagged v word w none = go v w.living w.either
    where
      plain : {v : Value} → is_live (is_settled a s) v ≡ true → word_now a s v ≡ word_before a v → IsEitherWord a s v word → IsNewWord a s v word
      plain live same (inl before) = record { settled = live; is = before ∙ sym same }
      plain live same (inr now) = now

      reference : (x i : ℕ) (kind : Kind) → i % 2 ≡ 0 → i + 2 ≤ 512 * length a.pages → word ≡ reference_word i kind → ⊥
      reference x i kind even inside is =
          let tag = tag_for kind in
          let bound = h.most in
          none i tag.0 (record { even = even; below = omega arith; word_is = is ∙ ap (λ (n : ℕ). base_address + 8 * i + n) (sym tag.1) })

      go : (v : Value) → IsLivingOrUnbound a.objects v → IsEitherWord a s v word → IsNewWord a s v word
      go (Fix n) l e = plain refl refl e
      go Nil l e = plain refl refl e
      go Unbound l e = plain refl refl e
      go (Ref x) l (inl before) =
          let there = some-there (object_at a.objects x) l in
          let placed = placed_before a s ms h.sound its x there.0 there.1 in
          let least = words_least there.0 in
          let inside = placed.inside in
          absurd (reference x there.0.place (kind_of there.0.contents) placed.even (omega arith) (before ∙ ap word_of_object there.1))
      go (Ref x) l (inr now) =
          let there = some-there (object_at a.objects x) l in
          let least = words_least there.0 in
          let inside = now_inside a s ms h.sound its x there.0 there.1 in
          absurd (reference x (new_of s.moves there.0.place) (kind_of there.0.contents) (now_even a s ms h.sound its x there.0 there.1) (omega arith)
          (now.is ∙ ap word_of_object (now-there a s.moves x there.0 there.1)))
