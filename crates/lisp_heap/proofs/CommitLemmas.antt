-- The commit of an object: its words and its label are written, and all stands for the heap with one object more.
use Rattle.std.proofs.Common.{◌≡◌, ◌≢◌, ℕ, suc, ◌+◌, ◌-◌, ◌*◌, ◌/◌, ◌<◌, ◌≤◌, List, [], ◌∷◌, ◌++◌, length, map, take, drop, replicate, refl, sym, ◌∙◌, subst, ap, ap₂, arith, set, get_or, length-set, get_or-set_same, get_or-set_other, inl, inr, Option, Some, None, ◌⊎◌}
use Rattle.std.proofs.lemmas.Bool.{cases_lt}
use Rattle.std.proofs.lemmas.List.{get_or_push, get_or_append_left, get_or-append_right, get_or-take, get_or-drop, length-append, length-take-le, length-drop, length-map}
use Rattle.std.specs.Prelude.{slice_index, slice_index_or, flat_map, pos}
use Rattle.heap_terms.specs.declared.cells.Value.{Value}
use Rattle.heap_terms.specs.declared.cells.Value.TheVariants.{Fix, Nil, Unbound, Ref}
use Rattle.heap_terms.specs.declared.kinds.Kind.TheVariants as kinds
use Rattle.heap_terms.specs.declared.programs.Program.{Program}
use Rattle.heap_terms.specs.Heap.{NamedHeap, object_at, entry_at, fill_of, zero_value}
use Rattle.heap_terms.specs.Layout.{page_words, filler_word, fixnum_word, size_of, unbound_word, weakness_number}
use Rattle.heap_terms.specs.OnPages.{BelongsTo, IsOwned}
use Rattle.heap_terms.specs.Objects.{Object, Contents, ConsOf, VectorOf, InstanceOf, ClosureOf, WordsOf, WeakTo, TableOf, kind_of, payload_of, words_of_object}
use Rattle.heap_terms.specs.Slots.{slots}
use Rattle.heap_terms.specs.Spelling.{spelling, with_header, word_of}
use Rattle.heap_terms.specs.Stands.{WordsStand, SlotsStand, KeptStand}
use Rattle.heap_terms.specs.WellFormed.{IsWellFormed, IsLiving, IsLivingOrUnbound, AreLiving, HoldsLiving, IsShaped, AreApart, IsPlaced}
use Rattle.heap_laws.specs.WordLaws.{AreAt, IsWithinCapacity, word_of_slot}
use Rattle.heap_laws.proofs.Allocating.{size_least}
use Rattle.heap_laws.proofs.AtPlaces.{IfSome-at, IfSome-from, IsSome-from, push_cases}
use Rattle.heap_laws.proofs.Reading.{slots-length, slots-spelled, slots_from_words, words_from_slots}
use Rattle.word_space.specs.Space.{written}
use Rattle.lisp_heap.specs.Standing.{LabelsStand}
use Rattle.lisp_heap.proofs.ObjectLemmas.{word_of-push, name_below}
use Rattle.lisp_heap.proofs.PutLemmas.{apart_at, placed_at}

-- ---- words written into a list

written_length : (words ws : List ℕ) (at : ℕ) → at + length ws ≤ length words → length (written words at ws) ≡ length words
written_length words ws at inside =
    omega (
      arith,
      length-append (take at words ++ ws) (drop (at + length ws) words),
      length-append (take at words) ws,
      length-take-le at words (omega arith),
      length-drop (at + length ws) words,
    )

front_length : (words ws : List ℕ) (at : ℕ) → at + length ws ≤ length words → length (take at words ++ ws) ≡ at + length ws
front_length words ws at inside = omega (arith, length-append (take at words) ws, length-take-le at words (omega arith))

written_in : (words ws : List ℕ) (at : ℕ) → at + length ws ≤ length words → AreAt (written words at ws) at ws
written_in words ws at inside i l =
    get_or_append_left (take at words ++ ws) (drop (at + length ws) words) 0 (at + i) (omega (arith, front_length words ws at inside))
    ∙ get_or-append_right (take at words) ws at (at + i) 0 (length-take-le at words (omega arith)) (omega arith)
    ∙ ap (λ (k : ℕ). get_or ws k 0) (omega arith)

written_out : (words ws : List ℕ) (at j : ℕ) → at + length ws ≤ length words → (j < at) ⊎ (at + length ws ≤ j) →
    slice_index (written words at ws) j ≡ slice_index words j
written_out words ws at j inside beside = elim beside [
  | inl l ↦ get_or_append_left (take at words ++ ws) (drop (at + length ws) words) 0 j (omega (arith, front_length words ws at inside))
      ∙ get_or_append_left (take at words) ws 0 j (omega (arith, length-take-le at words (omega arith)))
      ∙ get_or-take at words j 0 l
  | inr r ↦ get_or-append_right (take at words ++ ws) (drop (at + length ws) words) (at + length ws) j 0 (front_length words ws at inside) r
      ∙ get_or-drop (at + length ws) words (j - (at + length ws)) 0
      ∙ ap (λ (k : ℕ). get_or words k 0) (omega arith)
]

-- ---- the words of an object

within_capacity : (k : Contents) → IsShaped k → IsWithinCapacity k
within_capacity (ConsOf x y) h = tt
within_capacity (VectorOf vs) h = tt
within_capacity (InstanceOf vs) h = tt
within_capacity (ClosureOf vs) h = tt
within_capacity (WordsOf ws) h = tt
within_capacity (WeakTo v) h = tt
within_capacity (TableOf w b pairs) h = h.2

-- as many as its size
pub spelling_long : (objects : List (Option Object)) (k : Contents) → IsShaped k → length (spelling objects k) ≡ size_of (kind_of k) (payload_of k)
spelling_long objects k shape =
    ap (λ (ws : List ℕ). length ws) (sym (slots-spelled objects k)) ∙ length-map (slots k) (word_of_slot objects) ∙ slots-length k (within_capacity k shape)

-- words that are as a region builds them stand for it
stand_from : (objects : List (Option Object)) (words : List ℕ) (from : ℕ) (k : Contents) → AreAt words from (spelling objects k) →
    SlotsStand objects words from k × KeptStand words from k
stand_from objects words from k h =
    slots_from_words objects words from (slots k) (subst (λ (ws : List ℕ). AreAt words from ws) (sym (slots-spelled objects k)) h)

stand_to : (objects : List (Option Object)) (words : List ℕ) (from : ℕ) (k : Contents) → SlotsStand objects words from k → KeptStand words from k →
    AreAt words from (spelling objects k)
stand_to objects words from k spelled kept =
    subst (λ (ws : List ℕ). AreAt words from ws) (slots-spelled objects k) (words_from_slots objects words from (slots k) spelled kept)

-- the value behind the first one
behind : (v : Value) (vs : List Value) (i : ℕ) → slice_index_or (v ∷ vs) (1 + i) zero_value ≡ slice_index_or vs i zero_value
behind v vs i = ap (λ (k : ℕ). slice_index_or (v ∷ vs) k zero_value) (let e : 1 + i ≡ suc i = omega arith in e)

rest_living : (objects : List (Option Object)) (v : Value) (vs : List Value) → AreLiving objects (v ∷ vs) → AreLiving objects vs
rest_living objects v vs h i = subst (λ (u : Value). IsLiving objects u) (behind v vs i) (h (1 + i))

-- where the words of living values stay, those of the objects that hold them stay
module _ (old new : List (Option Object)) (same : (v : Value) → IsLiving old v → word_of new v ≡ word_of old v) where
  values_stay : (vs : List Value) → AreLiving old vs → map (word_of new) vs ≡ map (word_of old) vs
  values_stay [] h = refl
  values_stay (v ∷ vs) h = ap₂ (λ (w : ℕ) (ws : List ℕ). w ∷ ws) (same v (h 0)) (values_stay vs (rest_living old v vs h))

  unbound_stays : (v : Value) → IsLivingOrUnbound old v → word_of new v ≡ word_of old v
  unbound_stays (Fix n) h = same (Fix n) h
  unbound_stays Nil h = same Nil h
  unbound_stays Unbound h = refl
  unbound_stays (Ref name) h = same (Ref name) h

  pairs_stay : (pairs : List (Value × Value)) → AreLiving old (map (λ pair. pair.0) pairs) → AreLiving old (map (λ pair. pair.1) pairs) →
      flat_map (λ pair. word_of new pair.0 ∷ word_of new pair.1 ∷ []) pairs ≡ flat_map (λ pair. word_of old pair.0 ∷ word_of old pair.1 ∷ []) pairs
  pairs_stay [] keys values = refl
  pairs_stay (pair ∷ pairs) keys values =
      let rest = pairs_stay pairs (rest_living old pair.0 (map (λ (k : Value × Value). k.0) pairs) keys)
      (rest_living old pair.1 (map (λ (k : Value × Value). k.1) pairs) values) in
      ap₂ (λ (w : ℕ) (ws : List ℕ). w ∷ ws) (same pair.0 (keys 0)) (ap₂ (λ (w : ℕ) (ws : List ℕ). w ∷ ws) (same pair.1 (values 0)) rest)

  pub spelling_stays : (k : Contents) → HoldsLiving old k → spelling new k ≡ spelling old k
  spelling_stays (ConsOf x y) h = ap₂ (λ (v w : ℕ). v ∷ w ∷ []) (same x h.0) (same y h.1)
  spelling_stays (VectorOf vs) h = ap (with_header kinds.Vector) (values_stay vs h)
  spelling_stays (InstanceOf vs) h = ap (with_header kinds.Instance) (values_stay vs h)
  spelling_stays (ClosureOf vs) h = ap (with_header kinds.Closure) (values_stay vs h)
  spelling_stays (WordsOf ws) h = refl
  spelling_stays (WeakTo v) h = ap (λ (w : ℕ). with_header kinds.Weak (w ∷ [])) (unbound_stays v h)
  spelling_stays (TableOf w b pairs) h = ap (λ (ws : List ℕ). with_header kinds.Table (fixnum_word (pos (weakness_number w)) ∷ fixnum_word (pos 0) ∷ fixnum_word (pos (length pairs))
      ∷ (ws ++ replicate (2 * (b - length pairs)) unbound_word ++ replicate (2 * b) 0))) (pairs_stay pairs h.0 h.1)

-- ---- the commit

module _ (p : Program) (a b : NamedHeap) (words : List ℕ) (o : Object) (s : WordsStand a words) (before : IsWellFormed p a) (wf : IsWellFormed p b)
    (living : HoldsLiving a.objects o.contents) (pushed : b.objects ≡ a.objects ++ Some o ∷ []) (paged : length b.pages ≡ length a.pages)
    (filled : (page i : ℕ) → i < fill_of (entry_at b.pages page) → (i < fill_of (entry_at a.pages page)) ⊎ BelongsTo (page_words * page + i) o) where
  abbrev new_words : List ℕ
  new_words = spelling a.objects o.contents

  abbrev committed_words : List ℕ
  committed_words = written words o.place new_words

  -- the new object stands under the next name, and every other one under its own
  new_there : object_at b.objects (length a.objects) ≡ Some o
  new_there = ap (λ (os : List (Option Object)). object_at os (length a.objects)) pushed ∙ get_or_push a.objects (Some o) None (length a.objects) refl

  old_there : (name : ℕ) (q : Object) → object_at a.objects name ≡ Some q → object_at b.objects name ≡ Some q
  old_there name q h =
      ap (λ (os : List (Option Object)). object_at os name) pushed
      ∙ get_or_append_left a.objects (Some o ∷ []) None name (name_below a.objects name (IsSome-from (object_at a.objects name) q h)) ∙ h

  new_apart : (name : ℕ) (q : Object) → object_at a.objects name ≡ Some q → AreApart o q
  new_apart name q h =
      let lt : name < length a.objects = name_below a.objects name (IsSome-from (object_at a.objects name) q h) in
      let differ : length a.objects ≢ name = λ e. omega arith in
      apart_at p b (length a.objects) name o q wf differ new_there (old_there name q h)

  pub new_placed : IsPlaced b.pages o
  new_placed = placed_at p b (length a.objects) o wf new_there

  least : 2 ≤ words_of_object o
  least = size_least (kind_of o.contents) (payload_of o.contents)

  pub long : length new_words ≡ words_of_object o
  long = spelling_long a.objects o.contents (wf.sound.objects (length a.objects) o new_there).shape

  pub room : o.place + length new_words ≤ length words
  room = omega (arith, s.long, new_placed.inside, long, paged)

  stays : (k : Contents) → HoldsLiving a.objects k → spelling b.objects k ≡ spelling a.objects k
  stays k h = spelling_stays a.objects b.objects
      (λ v lives. ap (λ (os : List (Option Object)). word_of os v) pushed ∙ word_of-push a.objects o v lives) k h

  new_stands : SlotsStand b.objects committed_words o.place o.contents × KeptStand committed_words o.place o.contents
  new_stands = stand_from b.objects committed_words o.place o.contents
      (subst (λ (ws : List ℕ). AreAt committed_words o.place ws) (sym (stays o.contents living)) (written_in words new_words o.place room))

  old_stands : (name : ℕ) (q : Object) → object_at a.objects name ≡ Some q →
      SlotsStand b.objects committed_words q.place q.contents × KeptStand committed_words q.place q.contents
  old_stands name q h =
      let is = before.sound.objects name q h in
      let old = stand_to a.objects words q.place q.contents (IfSome-at (λ (k : Object). SlotsStand a.objects words k.place k.contents) (object_at a.objects name) q h (s.spelled name))
      (IfSome-at (λ (k : Object). KeptStand words k.place k.contents) (object_at a.objects name) q h (s.kept name)) in
      let size : length (spelling a.objects q.contents) ≡ words_of_object q = spelling_long a.objects q.contents is.shape in
      let apart = new_apart name q h in
      stand_from b.objects committed_words q.place q.contents
      (subst (λ (ws : List ℕ). AreAt committed_words q.place ws) (sym (stays q.contents is.contents))
      (λ i l. written_out words new_words o.place (q.place + i) room (beside q i apart (omega (arith, l, size))) ∙ old i l))
    where
      beside : (q : Object) (i : ℕ) → AreApart o q → i < words_of_object q → (q.place + i < o.place) ⊎ (o.place + length new_words ≤ q.place + i)
      beside q i apart l = elim apart [ inl h ↦ inr (omega (arith, h, long)) | inr h ↦ inl (omega (arith, h, l)) ]

  -- what stands under a name of the new heap
  by_name : (P : Object → Type 0) → P o → ((name : ℕ) (q : Object) → object_at a.objects name ≡ Some q → P q) →
      (name : ℕ) (q : Object) → object_at b.objects name ≡ Some q → P q
  by_name P new old name q h =
      let there : object_at (a.objects ++ Some o ∷ []) name ≡ Some q = sym (ap (λ (os : List (Option Object)). object_at os name) pushed) ∙ h in
      elim (push_cases a.objects name (Some o) None) [
        | inl kept ↦ old name q (sym kept.1 ∙ there)
        | inr new_here ↦ (let found : Some q ≡ Some o = sym there ∙ new_here.1 in let same : q ≡ o = cc in subst P (sym same) new)
      ]

  -- what belongs to an object belongs to it after the commit
  owned_still : (index : ℕ) → IsOwned a.objects index → IsOwned b.objects index
  owned_still index h = (h.0, h.1, old_there h.0 h.1 h.2, h.3)

  -- the new words below a fill are the new object's, so that fillers are as they were
  fillers_kept : (page i : ℕ) → i < fill_of (entry_at b.pages page) → ¬ IsOwned b.objects (page_words * page + i) →
      slice_index committed_words (page_words * page + i) ≡ filler_word
  fillers_kept page i l none =
      let index = page_words * page + i in
      let not_own : BelongsTo index o → ⊥ = λ own. none (length a.objects, o, new_there, own) in
      elim (filled page i l) [
        | inl was ↦ written_out words new_words o.place index room (beside index not_own) ∙ s.fillers page i was (λ owned. none (owned_still index owned))
        | inr own ↦ absurd (not_own own)
      ]
    where
      beside : (index : ℕ) → (BelongsTo index o → ⊥) → (index < o.place) ⊎ (o.place + length new_words ≤ index)
      beside index not_own = elim (cases_lt index o.place) [
        | inl low ↦ inl low
        | inr from ↦ elim (cases_lt index (o.place + words_of_object o)) [
          | inl below ↦ absurd (not_own (record { from = from; below = below }))
          | inr past ↦ inr (omega (arith, past, long))
        ]
      ]

  pub WordsStand-commit : WordsStand b committed_words
  WordsStand-commit = record {
    long = written_length words new_words o.place room ∙ s.long ∙ ap (λ n. page_words * n) (sym paged);
    spelled = λ name. IfSome-from (λ (q : Object). SlotsStand b.objects committed_words q.place q.contents) (object_at b.objects name)
        (by_name (λ (q : Object). SlotsStand b.objects committed_words q.place q.contents) new_stands.0 (λ x q h. (old_stands x q h).0) name);
    kept = λ name. IfSome-from (λ (q : Object). KeptStand committed_words q.place q.contents) (object_at b.objects name)
        (by_name (λ (q : Object). KeptStand committed_words q.place q.contents) new_stands.1 (λ x q h. (old_stands x q h).1) name);
    fillers = fillers_kept;
  }

  pub LabelsStand-commit : (labels : List ℕ) → LabelsStand a labels → LabelsStand b (set labels (o.place / 2) (length a.objects))
  LabelsStand-commit labels l =
      let here : o.place / 2 < length labels = omega (arith, l.long, paged, new_placed.inside, least) in
      record {
        long = length-set labels (o.place / 2) (length a.objects) ∙ l.long ∙ ap (λ n. 256 * n) (sym paged);
        named = λ name. IfSome-from (λ (q : Object). slice_index (set labels (o.place / 2) (length a.objects)) (q.place / 2) ≡ name) (object_at b.objects name)
            (λ q h.
            let there : object_at (a.objects ++ Some o ∷ []) name ≡ Some q = sym (ap (λ (os : List (Option Object)). object_at os name) pushed) ∙ h in
            elim (push_cases a.objects name (Some o) None) [
              | inl kept ↦ (
                  let was : object_at a.objects name ≡ Some q = sym kept.1 ∙ there in
                  let differ : q.place / 2 ≢ o.place / 2 = labels_apart name q was h in
                  get_or-set_other labels (o.place / 2) (q.place / 2) (length a.objects) 0 differ
                  ∙ IfSome-at (λ (k : Object). slice_index labels (k.place / 2) ≡ name) (object_at a.objects name) q was (l.named name))
              | inr new_here ↦ (
                  let found : Some q ≡ Some o = sym there ∙ new_here.1 in
                  let same : q ≡ o = cc in
                  subst (λ (k : Object). slice_index (set labels (o.place / 2) (length a.objects)) (k.place / 2) ≡ name) (sym same)
                  (get_or-set_same labels (o.place / 2) (length a.objects) 0 here ∙ sym new_here.0))
            ]);
      }
    where
      labels_apart : (name : ℕ) (q : Object) → object_at a.objects name ≡ Some q → object_at b.objects name ≡ Some q → q.place / 2 ≢ o.place / 2
      labels_apart name q was now e =
          let two : 2 ≤ words_of_object q = size_least (kind_of q.contents) (payload_of q.contents) in
          let placed_here = placed_at p b name q wf now in
          elim (new_apart name q was) [
            | inl h ↦ omega (arith, h, least, new_placed.even, placed_here.even, e)
            | inr h ↦ omega (arith, h, two, new_placed.even, placed_here.even, e)
          ]
