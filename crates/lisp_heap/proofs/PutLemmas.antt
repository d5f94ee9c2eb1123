-- One slot of an object becomes another: its word is written, and the words stand for the heap with the object changed.
use Rattle.std.proofs.Common.{◌≡◌, ◌≢◌, ℕ, ◌+◌, ◌*◌, ◌/◌, ◌<◌, List, length, sym, ◌∙◌, subst, ap, arith, set, length-set, get_or-set_same, get_or-set_other, inl, inr, Option, Some, None}
use Rattle.std.proofs.lemmas.Bool.{cases_eq}
use Rattle.std.proofs.lemmas.Option.{slice_get_within}
use Rattle.std.specs.Prelude.{slice_index, slice_get, IfSome}
use Rattle.heap_terms.specs.declared.cells.Value.{Value}
use Rattle.heap_terms.specs.declared.programs.Program.{Program}
use Rattle.heap_terms.specs.Heap.{NamedHeap, object_at, entry_at, fill_of}
use Rattle.heap_terms.specs.Layout.{page_words, filler_word, size_of}
use Rattle.heap_terms.specs.OnPages.{BelongsTo}
use Rattle.heap_terms.specs.Objects.{Object, Contents, kind_of, payload_of, words_of_object}
use Rattle.heap_terms.specs.Slots.{Slot, Raw, Val, Side, Kept, slots, slot_at}
use Rattle.heap_terms.specs.Sound.{IsSound}
use Rattle.heap_terms.specs.Stands.{WordsStand, StandsFor, SlotsStand, KeptStand}
use Rattle.heap_terms.specs.WellFormed.{IsWellFormed, AreApart, IsPlaced, IsOwned}
use Rattle.heap_terms.specs.Spelling.{word_of}
use Rattle.heap_laws.specs.WordLaws.{word_of_slot}
use Rattle.heap_laws.proofs.AtPlaces.{IfSome-at, IfSome-from, IsSome-from}
use Rattle.heap_laws.proofs.Reading.{slots-length}
use Rattle.lisp_heap.specs.Standing.{LabelsStand}
use Rattle.lisp_heap.proofs.ObjectLemmas.{word_of-replaced, name_below}
use Rattle.lisp_heap.proofs.SlotChanges.{slot_cases, stands_for, within_capacity}

-- two objects of a well-formed heap share no word
pub apart_at : (p : Program) (a : NamedHeap) (x y : ℕ) (o q : Object) → IsWellFormed p a → x ≢ y → object_at a.objects x ≡ Some o →
    object_at a.objects y ≡ Some q → AreApart o q
apart_at p a x y o q wf n hx hy = wf.sound.apart x y o q n hx hy

-- an object of a well-formed heap is placed
pub placed_at : (p : Program) (a : NamedHeap) (x : ℕ) (o : Object) → IsWellFormed p a → object_at a.objects x ≡ Some o → IsPlaced a.pages o
placed_at p a x o wf h = (wf.sound.objects x o h).placed

-- an object of a sound heap has a slot for each of its words
pub slots_count : (a : NamedHeap) (x : ℕ) (o : Object) → IsSound a → object_at a.objects x ≡ Some o → length (slots o.contents) ≡ words_of_object o
slots_count a x o w h = slots-length o.contents (within_capacity o.contents (w.objects x o h).shape)

module _ (a : NamedHeap) (words : List ℕ) (x i : ℕ) (o : Object) (k : Contents) (slot : Slot) (word : ℕ)
    (w : IsSound a) (s : WordsStand a words) (there : object_at a.objects x ≡ Some o)
    (kind : kind_of k ≡ kind_of o.contents) (payload : payload_of k ≡ payload_of o.contents)
    (within : i < length (slots o.contents)) (are : slots k ≡ set (slots o.contents) i slot) (is : word ≡ word_of_slot a.objects slot) where
  -- the object after the change
  abbrev changed : Object
  changed = record o { contents = k }

  abbrev new_objects : List (Option Object)
  new_objects = set a.objects x (Some changed)

  abbrev new_words : List ℕ
  new_words = set words (o.place + i) word

  now_there : object_at new_objects x ≡ Some changed
  now_there = get_or-set_same a.objects x (Some changed) None (name_below a.objects x (IsSome-from (object_at a.objects x) o there))

  same_size : words_of_object changed ≡ words_of_object o
  same_size = ap (λ (n : ℕ). size_of (kind_of k) n) payload ∙ ap (λ (z : _). size_of z (payload_of o.contents)) kind

  pub values_stay : (v : Value) → word_of new_objects v ≡ word_of a.objects v
  values_stay v = word_of-replaced a.objects x o k v there kind

  stays : (t : Slot) (n : ℕ) → StandsFor a.objects t n → StandsFor new_objects t n
  stays (Raw r) n h = h
  stays (Val v) n h = h ∙ sym (values_stay v)
  stays (Side v) n h = h ∙ sym (values_stay v)
  stays Kept n h = tt

  inside : o.place + i < length words
  inside = omega (arith, within, slots_count a x o w there, (w.objects x o there).placed.inside, s.long)

  -- a word at another index is as it was
  untouched : (index : ℕ) → index ≢ o.place + i → slice_index new_words index ≡ slice_index words index
  untouched index n = get_or-set_other words (o.place + i) index word 0 n

  old_slot : (name : ℕ) (q : Object) → object_at a.objects name ≡ Some q → (j : ℕ) (t : Slot) → slot_at q.contents j ≡ Some t →
      StandsFor a.objects t (slice_index words (q.place + j))
  old_slot name q h j t e =
      let spelled : SlotsStand a.objects words q.place q.contents =
      IfSome-at (λ (z : Object). SlotsStand a.objects words z.place z.contents) (object_at a.objects name) q h (s.spelled name) in
      IfSome-at (λ (z : Slot). StandsFor a.objects z (slice_index words (q.place + j))) (slot_at q.contents j) t e (spelled j)

  old_kept : (name : ℕ) (q : Object) → object_at a.objects name ≡ Some q → KeptStand words q.place q.contents
  old_kept name q h = IfSome-at (λ (z : Object). KeptStand words z.place z.contents) (object_at a.objects name) q h (s.kept name)

  -- the object itself
  own_slots : SlotsStand new_objects new_words o.place k
  own_slots j = IfSome-from (λ (z : Slot). StandsFor new_objects z (slice_index new_words (o.place + j))) (slot_at k j) (λ t e.
      let at : slice_get (set (slots o.contents) i slot) j ≡ Some t = ap (λ (ss : List Slot). slice_get ss j) (sym are) ∙ e in
      stays t (slice_index new_words (o.place + j)) (elim (slot_cases (slots o.contents) i j slot t at) [
        | inl here ↦ (
            let written : slice_index new_words (o.place + j) ≡ word = ap (λ (n : ℕ). slice_index new_words (o.place + n)) here.0 ∙ get_or-set_same words (o.place + i) word 0 inside in
            stands_for a.objects t (slice_index new_words (o.place + j)) (written ∙ is ∙ ap (word_of_slot a.objects) (sym here.1)))
        | inr other ↦ (
            let apart : o.place + j ≢ o.place + i = λ h. other.0 (omega (arith, h)) in
            subst (λ (n : ℕ). StandsFor a.objects t n) (sym (untouched (o.place + j) apart)) (old_slot x o there j t other.1))
      ]))

  own_kept : KeptStand new_words o.place k
  own_kept j e =
      let at : slice_get (set (slots o.contents) i slot) j ≡ Some Kept = ap (λ (ss : List Slot). slice_get ss j) (sym are) ∙ e in
      elim (slot_cases (slots o.contents) i j slot Kept at) [
        | inl here ↦ (ap (λ (n : ℕ). slice_index new_words (o.place + n)) here.0 ∙ get_or-set_same words (o.place + i) word 0 inside ∙ is ∙ ap (word_of_slot a.objects) (sym here.1))
        | inr other ↦ (
            let apart : o.place + j ≢ o.place + i = λ h. other.0 (omega (arith, h)) in
            untouched (o.place + j) apart ∙ old_kept x o there j other.1)
      ]

  -- no word of another object is written
  beside : (name : ℕ) (q : Object) → name ≢ x → object_at a.objects name ≡ Some q → (j : ℕ) (t : Slot) → slot_at q.contents j ≡ Some t → q.place + j ≢ o.place + i
  beside name q n h j t e same =
      let here : j < words_of_object q = omega (arith, slice_get_within (slots q.contents) j t e, slots_count a name q w h) in
      let own : i < words_of_object o = omega (arith, within, slots_count a x o w there) in
      elim (w.apart x name o q (λ z. n (sym z)) there h) [ inl l ↦ omega (arith, l, here, own, same) | inr r ↦ omega (arith, r, here, own, same) ]

  others_slots : (name : ℕ) (q : Object) → name ≢ x → object_at a.objects name ≡ Some q → SlotsStand new_objects new_words q.place q.contents
  others_slots name q n h j = IfSome-from (λ (z : Slot). StandsFor new_objects z (slice_index new_words (q.place + j))) (slot_at q.contents j) (λ t e.
      stays t (slice_index new_words (q.place + j))
      (subst (λ (m : ℕ). StandsFor a.objects t m) (sym (untouched (q.place + j) (beside name q n h j t e))) (old_slot name q h j t e)))

  others_kept : (name : ℕ) (q : Object) → name ≢ x → object_at a.objects name ≡ Some q → KeptStand new_words q.place q.contents
  others_kept name q n h j e = untouched (q.place + j) (beside name q n h j Kept e) ∙ old_kept name q h j e

  -- what is known of each object that is there after the change
  by_name : (P : Object → Type 0) → P changed → ((name : ℕ) (q : Object) → name ≢ x → object_at a.objects name ≡ Some q → P q) →
      (name : ℕ) → IfSome (object_at new_objects name) P
  by_name P own other name = IfSome-from P (object_at new_objects name) (λ q h. elim (cases_eq name x) [
    | inl e ↦ (
        let found : Some q ≡ Some changed = sym h ∙ ap (object_at new_objects) e ∙ now_there in
        let same : q ≡ changed = cc in
        subst P (sym same) own)
    | inr n ↦ other name q n (sym (get_or-set_other a.objects x name (Some changed) None n) ∙ h)
  ])

  -- a word that belonged to an object belongs to it still
  owned_still : (index : ℕ) → IsOwned a.objects index → IsOwned new_objects index
  owned_still index h = elim (cases_eq h.0 x) [
    | inl e ↦ (
        let here : Some o ≡ Some h.1 = sym there ∙ ap (object_at a.objects) (sym e) ∙ h.2 in
        let same : o ≡ h.1 = cc in
        let own : BelongsTo index o = subst (λ (z : Object). BelongsTo index z) (sym same) h.3 in
        (x, changed, now_there, record { from = own.from; below = omega (arith, own.below, same_size) }))
    | inr n ↦ (h.0, h.1, get_or-set_other a.objects x h.0 (Some changed) None n ∙ h.2, h.3)
  ]

  -- the word that was written belongs to the object, so that fillers are as they were
  fillers_kept : (page j : ℕ) → j < fill_of (entry_at a.pages page) → ¬ IsOwned new_objects (page_words * page + j) →
      slice_index new_words (page_words * page + j) ≡ filler_word
  fillers_kept page j l none =
      let own : i < words_of_object o = omega (arith, within, slots_count a x o w there) in
      let elsewhere : page_words * page + j ≢ o.place + i = λ e. none (owned_still (page_words * page + j)
      (x, o, there, record { from = omega (arith, e); below = omega (arith, e, own) })) in
      untouched (page_words * page + j) elsewhere ∙ s.fillers page j l (λ owned. none (owned_still (page_words * page + j) owned))

  pub WordsStand-slot : WordsStand (record a { objects = new_objects }) new_words
  WordsStand-slot = record {
    long = length-set words (o.place + i) word ∙ s.long;
    spelled = by_name (λ (q : Object). SlotsStand new_objects new_words q.place q.contents) own_slots others_slots;
    kept = by_name (λ (q : Object). KeptStand new_words q.place q.contents) own_kept others_kept;
    fillers = fillers_kept;
  }

  pub LabelsStand-slot : (labels : List ℕ) → LabelsStand a labels → LabelsStand (record a { objects = new_objects }) labels
  LabelsStand-slot labels l = record {
    long = l.long;
    named = λ name. named_at labels l name;
  }
    where
      old_label : (labels : List ℕ) → LabelsStand a labels → (name : ℕ) (q : Object) → object_at a.objects name ≡ Some q → slice_index labels (q.place / 2) ≡ name
      old_label labels l name q h = IfSome-at (λ (z : Object). slice_index labels (z.place / 2) ≡ name) (object_at a.objects name) q h (l.named name)

      named_at : (labels : List ℕ) → LabelsStand a labels → (name : ℕ) → IfSome (object_at new_objects name) (λ q. slice_index labels (q.place / 2) ≡ name)
      named_at labels l name = IfSome-from (λ (z : Object). slice_index labels (z.place / 2) ≡ name) (object_at new_objects name) (λ q h. elim (cases_eq name x) [
        | inl e ↦ (
            let found : Some q ≡ Some changed = sym h ∙ ap (object_at new_objects) e ∙ now_there in
            let same : q ≡ changed = cc in
            ap (λ (z : Object). slice_index labels (z.place / 2)) same ∙ old_label labels l x o there ∙ sym e)
        | inr n ↦ old_label labels l name q (sym (get_or-set_other a.objects x name (Some changed) None n) ∙ h)
      ])
