-- An object comes to hold something else of its kind and size: only its own words change, and the words stand for the heap
-- with the object changed.
use Rattle.std.proofs.Common.{◌≡◌, ◌≢◌, ℕ, ◌+◌, ◌*◌, ◌/◌, ◌<◌, ◌≤◌, ◌⊎◌, List, length, refl, sym, ◌∙◌, subst, ap, arith, set, length-set, get_or-set_same, get_or-set_other, get_or, inl, inr, Option, Some, None}
use Rattle.std.proofs.lemmas.Bool.{cases_eq, cases_lt}
use Rattle.std.proofs.lemmas.Option.{slice_get_within}
use Rattle.std.specs.Prelude.{slice_index, IfSome}
use Rattle.heap_terms.specs.declared.cells.Value.{Value}
use Rattle.heap_terms.specs.declared.cells.Value.TheVariants.{Ref}
use Rattle.heap_terms.specs.Generations.{allocated}
use Rattle.heap_terms.specs.Heap.{NamedHeap, object_at, thread_at, entry_at, fill_of, zero_value}
use Rattle.heap_terms.specs.Layout.{page_words, filler_word, size_of}
use Rattle.heap_terms.specs.Objects.{Object, Contents, kind_of, payload_of, words_of_object}
use Rattle.heap_terms.specs.OnPages.{BelongsTo}
use Rattle.heap_terms.specs.Slots.{Slot, Raw, Val, Side, Kept, slots, slot_at}
use Rattle.heap_terms.specs.Sound.{IsSound}
use Rattle.heap_terms.specs.Stands.{WordsStand, StandsFor, SlotsStand, KeptStand}
use Rattle.heap_terms.specs.WellFormed.{IsOwned}
use Rattle.heap_terms.specs.Spelling.{word_of}
use Rattle.heap_laws.proofs.AtPlaces.{IfSome-at, IfSome-from, IsSome-from}
use Rattle.lisp_heap.specs.Parts.{Parts}
use Rattle.lisp_heap.specs.Standing.{Holds, LabelsStand}
use Rattle.lisp_heap.proofs.CellLemmas.{CellsStand-objects}
use Rattle.lisp_heap.proofs.FinalizersKept.{FinalizersStand-everywhere}
use Rattle.lisp_heap.proofs.ObjectLemmas.{word_of-replaced, name_below}
use Rattle.lisp_heap.proofs.PutLemmas.{slots_count}

-- what changes: no word but the object's, which stand for what it holds now
pub record ChangesObject (a : NamedHeap) (words new : List ℕ) (x : ℕ) (o : Object) (k : Contents) : Type 0 where
  pub there : object_at a.objects x ≡ Some o
  pub kind : kind_of k ≡ kind_of o.contents
  pub payload : payload_of k ≡ payload_of o.contents
  pub long : length new ≡ length words
  pub elsewhere : (i : ℕ) → (i < o.place) ⊎ (o.place + words_of_object o ≤ i) → slice_index new i ≡ slice_index words i
  pub spelled : SlotsStand a.objects new o.place k
  pub kept : KeptStand new o.place k

module _ (a : NamedHeap) (words new : List ℕ) (x : ℕ) (o : Object) (k : Contents) (w : IsSound a) (s : WordsStand a words) (c : ChangesObject a words new x o k) where
  -- the object after the change
  abbrev changed : Object
  changed = record o { contents = k }

  abbrev new_objects : List (Option Object)
  new_objects = set a.objects x (Some changed)

  now_there : object_at new_objects x ≡ Some changed
  now_there = get_or-set_same a.objects x (Some changed) None (name_below a.objects x (IsSome-from (object_at a.objects x) o c.there))

  same_size : words_of_object changed ≡ words_of_object o
  same_size = ap (λ (n : ℕ). size_of (kind_of k) n) c.payload ∙ ap (λ (z : _). size_of z (payload_of o.contents)) c.kind

  pub values_stay : (v : Value) → word_of new_objects v ≡ word_of a.objects v
  values_stay v = word_of-replaced a.objects x o k v c.there c.kind

  stays : (t : Slot) (n : ℕ) → StandsFor a.objects t n → StandsFor new_objects t n
  stays (Raw r) n h = h
  stays (Val v) n h = h ∙ sym (values_stay v)
  stays (Side v) n h = h ∙ sym (values_stay v)
  stays Kept n h = tt

  own_slots : SlotsStand new_objects new o.place k
  own_slots j = IfSome-from (λ (z : Slot). StandsFor new_objects z (slice_index new (o.place + j))) (slot_at k j) (λ t e.
      stays t (slice_index new (o.place + j)) (IfSome-at (λ (z : Slot). StandsFor a.objects z (slice_index new (o.place + j))) (slot_at k j) t e (c.spelled j)))

  -- no word of another object is written
  beside : (name : ℕ) (q : Object) → name ≢ x → object_at a.objects name ≡ Some q → (j : ℕ) (t : Slot) → slot_at q.contents j ≡ Some t →
      slice_index new (q.place + j) ≡ slice_index words (q.place + j)
  beside name q n h j t e =
      let here : j < words_of_object q = omega (arith, slice_get_within (slots q.contents) j t e, slots_count a name q w h) in
      c.elsewhere (q.place + j) (elim (w.apart x name o q (λ z. n (sym z)) c.there h) [ inl l ↦ inr (omega (arith, l)) | inr r ↦ inl (omega (arith, r, here)) ])

  others_slots : (name : ℕ) (q : Object) → name ≢ x → object_at a.objects name ≡ Some q → SlotsStand new_objects new q.place q.contents
  others_slots name q n h j = IfSome-from (λ (z : Slot). StandsFor new_objects z (slice_index new (q.place + j))) (slot_at q.contents j) (λ t e.
      let spelled : SlotsStand a.objects words q.place q.contents =
      IfSome-at (λ (z : Object). SlotsStand a.objects words z.place z.contents) (object_at a.objects name) q h (s.spelled name) in
      let old : StandsFor a.objects t (slice_index words (q.place + j)) =
      IfSome-at (λ (z : Slot). StandsFor a.objects z (slice_index words (q.place + j))) (slot_at q.contents j) t e (spelled j) in
      stays t (slice_index new (q.place + j)) (subst (λ (m : ℕ). StandsFor a.objects t m) (sym (beside name q n h j t e)) old))

  others_kept : (name : ℕ) (q : Object) → name ≢ x → object_at a.objects name ≡ Some q → KeptStand new q.place q.contents
  others_kept name q n h j e =
      let old : KeptStand words q.place q.contents = IfSome-at (λ (z : Object). KeptStand words z.place z.contents) (object_at a.objects name) q h (s.kept name) in
      beside name q n h j Kept e ∙ old j e

  -- what is known of each object that is there after the change
  by_name : (P : Object → Type 0) → P changed → ((name : ℕ) (q : Object) → name ≢ x → object_at a.objects name ≡ Some q → P q) →
      (name : ℕ) → IfSome (object_at new_objects name) P
  by_name P own other name = IfSome-from P (object_at new_objects name) (λ q h. elim (cases_eq name x) [
    | inl e ↦ (
        let found : Some q ≡ Some changed = sym h ∙ ap (object_at new_objects) e ∙ now_there in
        let same : q ≡ changed = cc in
        subst P (sym same) own)
    | inr n ↦ other name q n (sym (get_or-set_other a.objects x name (Some changed) None n) ∙ h)
  ])

  -- a word that belonged to an object belongs to it still
  owned_still : (index : ℕ) → IsOwned a.objects index → IsOwned new_objects index
  owned_still index h = elim (cases_eq h.0 x) [
    | inl e ↦ (
        let here : Some o ≡ Some h.1 = sym c.there ∙ ap (object_at a.objects) (sym e) ∙ h.2 in
        let same : o ≡ h.1 = cc in
        let own : BelongsTo index o = subst (λ (z : Object). BelongsTo index z) (sym same) h.3 in
        (x, changed, now_there, record { from = own.from; below = omega (arith, own.below, same_size) }))
    | inr n ↦ (h.0, h.1, get_or-set_other a.objects x h.0 (Some changed) None n ∙ h.2, h.3)
  ]

  -- the words of the object belong to it, so that fillers are as they were
  fillers_kept : (page j : ℕ) → j < fill_of (entry_at a.pages page) → ¬ IsOwned new_objects (page_words * page + j) →
      slice_index new (page_words * page + j) ≡ filler_word
  fillers_kept page j l none =
      let i = page_words * page + j in
      let old = s.fillers page j l (λ owned. none (owned_still i owned)) in
      let outside : (o.place ≤ i) → (i < o.place + words_of_object o) → ⊥ = λ from below.
      none (owned_still i (x, o, c.there, record { from = from; below = below })) in
      elim (cases_lt i o.place) [
        | inl low ↦ c.elsewhere i (inl low) ∙ old
        | inr from ↦ elim (cases_lt i (o.place + words_of_object o)) [
          | inl below ↦ absurd (outside from below)
          | inr past ↦ c.elsewhere i (inr past) ∙ old
        ]
      ]

  pub WordsStand-changed : WordsStand (record a { objects = new_objects }) new
  WordsStand-changed = record {
    long = c.long ∙ s.long;
    spelled = by_name (λ (q : Object). SlotsStand new_objects new q.place q.contents) own_slots others_slots;
    kept = by_name (λ (q : Object). KeptStand new q.place q.contents) c.kept others_kept;
    fillers = fillers_kept;
  }

  LabelsStand-changed : (labels : List ℕ) → LabelsStand a labels → LabelsStand (record a { objects = new_objects }) labels
  LabelsStand-changed labels l =
      let old : (name : ℕ) (q : Object) → object_at a.objects name ≡ Some q → slice_index labels (q.place / 2) ≡ name =
      λ name q h. IfSome-at (λ (z : Object). slice_index labels (z.place / 2) ≡ name) (object_at a.objects name) q h (l.named name) in
      record {
        long = l.long;
        named = λ name. IfSome-from (λ (z : Object). slice_index labels (z.place / 2) ≡ name) (object_at new_objects name) (λ q h. elim (cases_eq name x) [
          | inl e ↦ (
              let found : Some q ≡ Some changed = sym h ∙ ap (object_at new_objects) e ∙ now_there in
              let same : q ≡ changed = cc in
              ap (λ (z : Object). slice_index labels (z.place / 2)) same ∙ old x o c.there ∙ sym e)
          | inr n ↦ old name q (sym (get_or-set_other a.objects x name (Some changed) None n) ∙ h)
        ]);
      }

  -- all that a World keeps stands for the heap with the object changed
  pub Holds-changed : (v : Parts) → v.words ≡ words → ((g : ℕ) → allocated (record a { objects = new_objects }) g ≡ allocated a g) → Holds a v →
      Holds (record a { objects = new_objects }) (record v { words = new })
  Holds-changed v is same_words holds = record {
    words = WordsStand-changed;
    pages = holds.pages;
    labels = LabelsStand-changed v.labels holds.labels;
    cells = CellsStand-objects a new_objects v.cells (record {
      stack = λ u i hu hi. values_stay (get_or (thread_at a u).stack i zero_value);
      exact = λ u i hu hi. values_stay (get_or (thread_at a u).exact i zero_value);
      shared = λ i hi. values_stay (get_or a.shared i zero_value);
    }) holds.cells;
    states = holds.states;
    pins = holds.pins;
    commits = holds.commits ∙ sym (length-set a.objects x (Some changed));
    stats = record {
      allocated_is = λ g low. holds.stats.allocated_is g low ∙ sym (same_words g);
      cum_is = holds.stats.cum_is;
      num_is = holds.stats.num_is;
    };
    counted = holds.counted;
    triggered = holds.triggered;
    finalizers = FinalizersStand-everywhere a (record a { objects = new_objects }) v.finalizers (λ name. values_stay (Ref name)) refl refl holds.finalizers;
  }
