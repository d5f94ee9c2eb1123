-- After tables are culled weak pointers can be broken; and after both, what stands at the starts stands for what survives, and every
-- other settled object has the words that it had.
use Rattle.std.proofs.Common.{◌≡◌, ◌≢◌, ℕ, ◌+◌, ◌<◌, List, length, Option, Some, true, inl, inr, sym, ◌∙◌, ap, subst, arith}
use Rattle.std.proofs.lemmas.Bool.{cases_eq}
use Rattle.std.proofs.lemmas.Option.{same_Some}
use Rattle.std.specs.Prelude.{IfSome, slice_index}
use Rattle.heap_terms.specs.declared.kinds.Kind.{Kind}
use Rattle.heap_terms.specs.declared.kinds.Kind.TheVariants as kinds
use Rattle.heap_terms.specs.Heap.{NamedHeap, object_at}
use Rattle.heap_terms.specs.Layout.{header_of}
use Rattle.heap_terms.specs.Objects.{Object, kind_of, payload_of, words_of_object}
use Rattle.heap_terms.specs.Slots.{Slot, Kept}
use Rattle.heap_terms.specs.Stands.{StandsFor}
use Rattle.heap_terms.specs.Survival.{surviving}
use Rattle.pass_laws.proofs.AfterPages.{surviving-kind, surviving-payload}
use Rattle.pass_laws.proofs.AfterPass.{IsShaped-surviving}
use Rattle.pass_laws.proofs.Sizes.{words_least}
use Rattle.copy_space.specs.CullNotes.{broken_of}
use Rattle.copy_space.specs.declared.notes.PassNotes.{PassNotes}
use Rattle.copy_space.specs.Midway.{IsPlacedSoFar, Midway}
use Rattle.copy_space.specs.Moved.{new_of, objects_now}
use Rattle.copy_space.specs.Settled.{is_settled}
use Rattle.copy_space.specs.State.{CopyState}
use Rattle.copy_space.proofs.Places.{now_apart}
use Rattle.copy_space.proofs.Referents.{ms, its}
use Rattle.copy_space.proofs.Shapes.{header_leads, slot-below}
use Rattle.weak_refs.specs.Breaking.{CanBreak, HasRoomForBreaks}
use Rattle.copy_space.specs.WeakNames.{AreNamed, IsWeakAt}
use Rattle.copy_space.specs.Surviving.{StandsAfter}
use Rattle.weak_refs.specs.Rewriting.{IsWeakStart, IsInSome, AreRewritten}
use Rattle.weak_refs.proofs.BreakingLoop.{weak-over}
use Rattle.weak_refs.proofs.Carrying.{over, after-same, slot-over}
use Rattle.weak_refs.proofs.Midways.{weak-header}

module _ (a : NamedHeap) (s : CopyState) (h : IsPlacedSoFar a s) (kind : Kind) (starts : List ℕ) (n : ℕ) where
  -- an object of another kind has no word in what was rewritten
  not-rewritten-kind : (name : ℕ) (o : Object) → object_at a.objects name ≡ Some o → kind_of o.contents ≢ kind → (i : ℕ) → i < words_of_object o →
      ¬ IsInSome a s kind starts n (new_of s.moves o.place + i)
  not-rewritten-kind name o there other i l is =
      let into = is.is in
      let here = into.here in
      let from = into.from in
      let below = into.below in
      elim (cases_eq name into.name) [
        | inl same ↦ other (ap (λ (q : Object). kind_of q.contents) (same_Some o into.o (sym there ∙ subst (λ (z : ℕ). object_at a.objects z ≡ Some into.o) (sym same) into.there)) ∙ into.is_kind)
        | inr apart ↦ elim (now_apart a s (ms a s h) h.sound (its a s h) name into.name o into.o apart there into.there) [ inl m ↦ absurd (omega arith) | inr m ↦ absurd (omega arith) ]
      ]

  -- so its words are as they were
  pub words-kept : (t : CopyState) → AreRewritten a s t kind starts n → (name : ℕ) (o : Object) → object_at a.objects name ≡ Some o → kind_of o.contents ≢ kind → (i : ℕ) → i < words_of_object o →
      slice_index t.words (new_of s.moves o.place + i) ≡ slice_index s.words (new_of s.moves o.place + i)
  words-kept t left name o there other i l = left.others (new_of s.moves o.place + i) (not-rewritten-kind name o there other i l)

-- a table that was culled begins with its header
culled_header : (a : NamedHeap) (s t : CopyState) → IsPlacedSoFar a s → (name start : ℕ) (at : IsWeakAt a s name start) → kind_of at.o.contents ≡ kinds.Table → StandsAfter a s t at.o →
    slice_index t.words start ≡ header_of (kind_of at.o.contents) (payload_of at.o.contents)
culled_header a s t h name start at is stands =
    let left = surviving (is_settled a s) at.o.contents in
    let shape = IsShaped-surviving (is_settled a s) at.o.contents (h.sound.objects name at.o at.there).shape in
    let none : new_of s.moves at.o.place + 0 ≡ start = (let here = at.here in omega arith) in
    let headed : kind_of left ≢ kinds.Cons = λ cons. (let never : kinds.Table ≡ kinds.Cons = sym is ∙ sym (surviving-kind (is_settled a s) at.o.contents) ∙ cons in cc) in
    let first : slice_index t.words (new_of s.moves at.o.place + 0) ≡ header_of (kind_of left) (payload_of left) =
    subst (λ (q : Option Slot). IfSome q (λ slot. StandsFor (objects_now a s.moves) slot (slice_index t.words (new_of s.moves at.o.place + 0)))) (header_leads left shape headed) (stands.slots 0) in
    ap (λ (i : ℕ). slice_index t.words i) (sym none) ∙ first
    ∙ ap (λ (k : Kind). header_of k (payload_of left)) (surviving-kind (is_settled a s) at.o.contents)
    ∙ ap (λ (p : ℕ). header_of (kind_of at.o.contents) p) (surviving-payload (is_settled a s) at.o.contents)

module _ (a : NamedHeap) (s t : CopyState) (m : Midway a s) (starts names : List ℕ) (named : AreNamed a s starts names) (left : AreRewritten a s t kinds.Table starts (length starts)) where
  still_pointer : (k : ℕ) → k < length starts → IsWeakStart a t kinds.Weak (slice_index starts k)
  still_pointer k l =
      let at = named.each k l in
      let start = slice_index starts k in
      let name = slice_index names k in
      let same : kind_of at.o.contents ≢ kinds.Table → (i : ℕ) → i < words_of_object at.o → slice_index t.words (new_of s.moves at.o.place + i) ≡ slice_index s.words (new_of s.moves at.o.place + i) =
      λ other. words-kept a s m.places kinds.Table starts (length starts) t left name at.o at.there other in
      subst (λ (x : CopyState). IsWeakStart a x kinds.Weak start) (sym left.same) (record {
        name = name;
        at = record { o = at.o; there = at.there; settled = at.settled; here = at.here; weak = at.weak };
        header = elim at.weak [
          | inr table ↦ culled_header a s t m.places name start at table (left.after k name at.o l at.there at.settled at.here table)
          | inl weak ↦ (let none : new_of s.moves at.o.place + 0 ≡ start = (let here = at.here in omega arith) in
              let least = words_least at.o in
              subst (λ (i : ℕ). slice_index t.words i ≡ slice_index s.words i) none (same (λ table. (let never : kinds.Weak ≡ kinds.Table = sym weak ∙ table in cc)) 0 (omega arith)) ∙ weak-header a s name start m at)
        ];
        before = λ weak. (let other : kind_of at.o.contents ≢ kinds.Table = λ table. (let never : kinds.Weak ≡ kinds.Table = sym weak ∙ table in cc) in
            let shape = (m.places.sound.objects name at.o at.there).shape in
            record {
              slots = λ i slot e. slot-over a s t.words slot (slice_index s.words (new_of s.moves at.o.place + i)) (slice_index t.words (new_of s.moves at.o.place + i))
                  (same other i (slot-below at.o.contents shape i slot e)) (m.spelled.slots name at.o at.there i slot e);
              kept = λ i e. same other i (slot-below at.o.contents shape i Kept e) ∙ m.spelled.kept name at.o at.there i e;
            });
      })

  -- weak pointers can be broken after tables were culled
  pub culled-can-break : (notes : PassNotes) → HasRoomForBreaks notes (broken_of a (is_settled a s) names) → CanBreak a t starts notes
  culled-can-break notes room = record {
    starts_are = record { places = left.places; each = still_pointer };
    names = names;
    named = record { long = named.long; each = λ k l. weak-over a s t left.same (slice_index names k) (slice_index starts k) (named.each k l) };
    room = subst (λ (x : CopyState). HasRoomForBreaks notes (broken_of a (is_settled a x) names)) (sym left.same) room;
  }

  -- after both, what stands at the starts stands for what survives
  module _ (u : CopyState) (broken : AreRewritten a t u kinds.Weak starts (length starts)) where
    broken_over : AreRewritten a (over s t.words) u kinds.Weak starts (length starts)
    broken_over = subst (λ (x : CopyState). AreRewritten a x u kinds.Weak starts (length starts)) left.same broken

    places_over : IsPlacedSoFar a (over s t.words)
    places_over = subst (λ (x : CopyState). IsPlacedSoFar a x) left.same left.places

    pub both-same : u ≡ record s { words = u.words }
    both-same = broken.same ∙ ap (λ (x : CopyState). record x { words = u.words }) left.same

    pub table-after : (k name : ℕ) (o : Object) → k < length starts → object_at a.objects name ≡ Some o → is_settled a s name ≡ true → new_of s.moves o.place ≡ slice_index starts k →
        kind_of o.contents ≡ kinds.Table → StandsAfter a s u o
    table-after k name o l there settled here is =
        after-same a s t u m.places name o there
        (words-kept a (over s t.words) places_over kinds.Weak starts (length starts) u broken_over name o there (λ weak. (let never : kinds.Table ≡ kinds.Weak = sym is ∙ weak in cc)))
        (left.after k name o l there settled here is)

    pub pointer-after : (k name : ℕ) (o : Object) → k < length starts → object_at a.objects name ≡ Some o → is_settled a s name ≡ true → new_of s.moves o.place ≡ slice_index starts k →
        kind_of o.contents ≡ kinds.Weak → StandsAfter a s u o
    pointer-after k name o l there settled here is = (let stands = broken_over.after k name o l there settled here is in record { slots = stands.slots; kept = stands.kept })

    -- and what is no weak pointer or table has the words that it had
    pub other-after : (name : ℕ) (o : Object) → object_at a.objects name ≡ Some o → kind_of o.contents ≢ kinds.Table → kind_of o.contents ≢ kinds.Weak → (i : ℕ) → i < words_of_object o →
        slice_index u.words (new_of s.moves o.place + i) ≡ slice_index s.words (new_of s.moves o.place + i)
    other-after name o there no_table no_pointer i l =
        words-kept a (over s t.words) places_over kinds.Weak starts (length starts) u broken_over name o there no_pointer i l
        ∙ words-kept a s m.places kinds.Table starts (length starts) t left name o there no_table i l
