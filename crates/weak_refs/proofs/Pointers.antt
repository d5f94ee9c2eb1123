-- One weak pointer gets its word after the pass.
use Rattle.std.proofs.Common.{◌≡◌, ◌≢◌, ℕ, zero, suc, ◌+◌, ◌≤◌, List, [], ◌∷◌, ◌++◌, set, length, Option, Some, None, Bool, true, false, inl, inr, refl, sym, ◌∙◌, ap, subst, arith}
use Rattle.std.proofs.lemmas.Bool.{cases_Bool}
use Rattle.std.proofs.lemmas.List.{get_or-set_same, get_or-set_other, append-nil}
use Rattle.std.specs.Prelude.{IfSome, slice_index, if◌then◌else◌, not}
use Rattle.heap_terms.specs.declared.cells.Value.{Value}
use Rattle.heap_terms.specs.declared.cells.Value.TheVariants.{Unbound}
use Rattle.heap_terms.specs.declared.kinds.Kind.{Kind}
use Rattle.heap_terms.specs.declared.kinds.Kind.TheVariants as kinds
use Rattle.heap_terms.specs.Heap.{NamedHeap}
use Rattle.heap_terms.specs.Layout.{header_of, unbound_word}
use Rattle.heap_terms.specs.Live.{is_live}
use Rattle.heap_terms.specs.Living.{HoldsLiving}
use Rattle.heap_terms.specs.Objects.{Object, Contents, ConsOf, VectorOf, InstanceOf, ClosureOf, WordsOf, WeakTo, TableOf, kind_of, payload_of}
use Rattle.heap_terms.specs.Slots.{Raw, Side, Kept, slot_at}
use Rattle.heap_terms.specs.Stands.{StandsFor, SlotsStand, KeptStand}
use Rattle.heap_terms.specs.Spelling.{word_of}
use Rattle.heap_terms.specs.Survival.{surviving}
use Rattle.lisp_words.specs.Tagged.{IsHeader}
use Rattle.pass_laws.proofs.Sizes.{words_least}
use Rattle.copy_space.specs.declared.notes.PassNotes.{PassNotes}
use Rattle.copy_space.specs.Copying.{CanLookUp, settled_word}
use Rattle.copy_space.specs.Midway.{IsPlacedSoFar}
use Rattle.copy_space.specs.Moved.{new_of, objects_now}
use Rattle.copy_space.specs.Settled.{is_settled, word_now, IsWordOf}
use Rattle.copy_space.specs.State.{CopyState}
use Rattle.copy_space.proofs.Places.{now_inside}
use Rattle.copy_space.proofs.Referents.{ms, its}
use Rattle.copy_space.proofs.Rewriting.{written, places-written}
use Rattle.copy_space.proofs.Shapes.{payload-most}
use Rattle.weak_refs.specs.Breaking.{IsPointerNow, IsPointerLeft, word_left}
use Rattle.copy_space.specs.WeakNames.{IsWeakAt}
use Rattle.copy_space.specs.Surviving.{StandsAfter}
use Rattle.weak_refs.specs.Rewriting.{IsWeakStart, IsRewritten}
use Rattle.weak_refs.proofs.Starts.{same-object}

-- contents of a kind
pub pointer_contents : (k : Contents) → kind_of k ≡ kinds.Weak → (v : Value) × (k ≡ WeakTo v)
pointer_contents (ConsOf a b) e = absurd (let never : kinds.Cons ≡ kinds.Weak = e in cc)
pointer_contents (VectorOf vs) e = absurd (let never : kinds.Vector ≡ kinds.Weak = e in cc)
pointer_contents (InstanceOf vs) e = absurd (let never : kinds.Instance ≡ kinds.Weak = e in cc)
pointer_contents (ClosureOf vs) e = absurd (let never : kinds.Closure ≡ kinds.Weak = e in cc)
pointer_contents (WordsOf ws) e = absurd (let never : kinds.Words ≡ kinds.Weak = e in cc)
pointer_contents (WeakTo v) e = (v, refl)
pointer_contents (TableOf w b pairs) e = absurd (let never : kinds.Table ≡ kinds.Weak = e in cc)

-- the first word of what stands at a start tells its kind
pub start-inside : (a : NamedHeap) (s : CopyState) → IsPlacedSoFar a s → (name start : ℕ) → IsWeakAt a s name start → start + 2 ≤ length s.words
start-inside a s h name start at =
    let inside = now_inside a s (ms a s h) h.sound (its a s h) name at.o at.there in
    let long = h.long in
    let least = words_least at.o in
    let here = at.here in
    omega arith

pub start-header : (a : NamedHeap) (s : CopyState) (kind : Kind) (start : ℕ) → IsPlacedSoFar a s → (q : IsWeakStart a s kind start) →
    IsHeader (slice_index s.words start) (kind_of q.at.o.contents) (payload_of q.at.o.contents)
start-header a s kind start h q =
    let most = payload-most q.at.o.contents (h.sound.objects q.name q.at.o q.at.there).shape in
    record {
      headed = λ cons. elim q.at.weak [
        | inl weak ↦ (let never : kinds.Weak ≡ kinds.Cons = sym weak ∙ cons in cc)
        | inr table ↦ (let never : kinds.Table ≡ kinds.Cons = sym table ∙ cons in cc)
      ];
      below = omega arith;
      word_is = q.header;
    }

abbrev pub pointer-now : (a : NamedHeap) (s : CopyState) (start : ℕ) (q : IsWeakStart a s kinds.Weak start) → kind_of q.at.o.contents ≡ kinds.Weak → IsPointerNow a s start
pointer-now a s start q is =
    let found = pointer_contents q.at.o.contents is in
    let side : slot_at q.at.o.contents 1 ≡ Some (Side found.0) = ap (λ (k : Contents). slot_at k 1) found.1 in
    record {
      name = q.name;
      o = q.at.o;
      there = q.at.there;
      settled = q.at.settled;
      here = q.at.here;
      v = found.0;
      contents = found.1;
      header = q.header ∙ ap (λ (k : Contents). header_of (kind_of k) (payload_of k)) found.1;
      word = ap (λ (i : ℕ). slice_index s.words (i + 1)) (sym q.at.here) ∙ (q.before is).slots 1 (Side found.0) side;
    }

module _ (a : NamedHeap) (s : CopyState) (start : ℕ) (h : IsPlacedSoFar a s) (q : IsPointerNow a s start) where
  pub pointer-inside : start + 2 ≤ length s.words
  pointer-inside = start-inside a s h q.name start (record { o = q.o; there = q.there; settled = q.settled; here = q.here; weak = inl (ap kind_of q.contents) })

  pub pointer-word : (word : ℕ) → word ≡ slice_index s.words (start + 1) → IsWordOf a s q.v word
  pointer-word word is = record {
    living = subst (λ (k : Contents). HoldsLiving a.objects k) q.contents (h.sound.objects q.name q.o q.there).contents;
    either = inl (is ∙ q.word);
  }

  pub pointer-look : (word : ℕ) → word ≡ slice_index s.words (start + 1) → CanLookUp a s word
  pointer-look word is = record { places = h; value = q.v; is_word = pointer-word word is }

  -- the value is settled
  pub left-live : (t : CopyState) (now : ℕ) (old new : PassNotes) → Some now ≡ settled_word a s q.v → t ≡ record s { words = set s.words (start + 1) now } → new.breaks ≡ old.breaks →
      IsPointerLeft a s t start q.o.place q.v old new
  left-live t now old new found is same = elim (cases_Bool (is_live (is_settled a s) q.v)) [
    | inl live ↦ (let now_is : Some now ≡ Some (word_now a s q.v) = rw live at found in
        let word_is : now ≡ word_now a s q.v = cc in
        record {
          is = rw live (rw (sym word_is) is);
          noted = rw live (ap (λ n. n.items) same ∙ sym (append-nil old.breaks.items));
        })
    | inr dead ↦ absurd (let never : Some now ≡ None = rw dead at found in cc)
  ]

  -- it is not
  pub left-dead : (t : CopyState) (place : ℕ) (old new : PassNotes) → None ≡ settled_word a s q.v → t ≡ record s { words = set s.words (start + 1) unbound_word } → place ≡ q.o.place →
      new.breaks.items ≡ old.breaks.items ++ place ∷ [] → IsPointerLeft a s t start q.o.place q.v old new
  left-dead t place old new found is at noted = elim (cases_Bool (is_live (is_settled a s) q.v)) [
    | inl live ↦ absurd (let never : None ≡ Some (word_now a s q.v) = rw live at found in cc)
    | inr dead ↦ record { is = rw dead is; noted = rw dead (noted ∙ ap (λ (p : ℕ). old.breaks.items ++ p ∷ []) at) }
  ]

pub dead-none : (a : NamedHeap) (s : CopyState) (v : Value) → None ≡ settled_word a s v → not (is_live (is_settled a s) v) ≡ true
dead-none a s v found = elim (cases_Bool (is_live (is_settled a s) v)) [
  | inl live ↦ absurd (let never : None ≡ Some (word_now a s v) = rw live at found in cc)
  | inr dead ↦ rw dead refl
]

-- the words of a weak pointer
pointer-slots : (objects : List (Option Object)) (words : List ℕ) (p : ℕ) (v : Value) → slice_index words p ≡ header_of kinds.Weak 1 → slice_index words (p + 1) ≡ word_of objects v →
    SlotsStand objects words p (WeakTo v)
pointer-slots objects words p v first second = λ i. go i
  where
    go : (i : ℕ) → IfSome (slot_at (WeakTo v) i) (λ slot. StandsFor objects slot (slice_index words (p + i)))
    go zero = (let none : p + 0 ≡ p = omega arith in ap (λ (i : ℕ). slice_index words i) none ∙ first)
    go (suc zero) = second
    go (suc (suc i)) = tt

pointer-kept : (words : List ℕ) (p : ℕ) (v : Value) → KeptStand words p (WeakTo v)
pointer-kept words p v = λ i e. go i e
  where
    go : (i : ℕ) → slot_at (WeakTo v) i ≡ Some Kept → slice_index words (p + i) ≡ 0
    go zero e = absurd (let never : Some (Raw (header_of kinds.Weak 1)) ≡ Some Kept = e in cc)
    go (suc zero) e = absurd (let never : Some (Side v) ≡ Some Kept = e in cc)
    go (suc (suc i)) e = absurd (let never : None ≡ Some Kept = e in cc)

value-left : (live : Bool) (objects : List (Option Object)) (v : Value) → (if live then word_of objects v else unbound_word) ≡ word_of objects (if live then v else Unbound)
value-left true objects v = refl
value-left false objects v = refl

module _ (a : NamedHeap) (s t : CopyState) (start : ℕ) (h : IsPlacedSoFar a s) (q : IsPointerNow a s start) (is : t ≡ record s { words = set s.words (start + 1) (word_left a s q.v) }) where
  words_are : t.words ≡ set s.words (start + 1) (word_left a s q.v)
  words_are = ap (λ x. x.words) is

  places_then : IsPlacedSoFar a t
  places_then =
      let least = words_least q.o in
      let second : new_of s.moves q.o.place + 1 ≡ start + 1 = ap (λ (i : ℕ). i + 1) q.here in
      subst (λ (x : CopyState). IsPlacedSoFar a x) (sym is)
      (subst (λ (i : ℕ). IsPlacedSoFar a (written s i (word_left a s q.v))) second (places-written a s h q.name q.o q.there 1 (omega arith) (word_left a s q.v)))

  stands_then : StandsAfter a s t q.o
  stands_then =
      let inside = pointer-inside a s start h q in
      let first : start ≢ start + 1 = λ e. omega arith in
      let one : slice_index t.words start ≡ header_of kinds.Weak 1 =
      ap (λ (w : List ℕ). slice_index w start) words_are ∙ get_or-set_other s.words (start + 1) start (word_left a s q.v) 0 first ∙ q.header in
      let two : slice_index t.words (start + 1) ≡ word_of (objects_now a s.moves) (if is_live (is_settled a s) q.v then q.v else Unbound) =
      ap (λ (w : List ℕ). slice_index w (start + 1)) words_are ∙ get_or-set_same s.words (start + 1) (word_left a s q.v) 0 (omega arith)
      ∙ value-left (is_live (is_settled a s) q.v) (objects_now a s.moves) q.v in
      let left : Value = if is_live (is_settled a s) q.v then q.v else Unbound in
      record {
        slots = subst (λ (p : ℕ). SlotsStand (objects_now a s.moves) t.words p (surviving (is_settled a s) q.o.contents)) (sym q.here)
            (subst (λ (k : Contents). SlotsStand (objects_now a s.moves) t.words start (surviving (is_settled a s) k)) (sym q.contents)
            (pointer-slots (objects_now a s.moves) t.words start left one two));
        kept = subst (λ (p : ℕ). KeptStand t.words p (surviving (is_settled a s) q.o.contents)) (sym q.here)
            (subst (λ (k : Contents). KeptStand t.words start (surviving (is_settled a s) k)) (sym q.contents) (pointer-kept t.words start left));
      }

  pub pointer-rewritten : IsRewritten a s t kinds.Weak start
  pointer-rewritten = record {
    same = is ∙ ap (λ (w : List ℕ). record s { words = w }) (sym words_are);
    places = places_then;
    after = λ name o there settled here kind. subst (λ (p : Object). StandsAfter a s t p) (same-object a s h q.name name q.o o q.there there (q.here ∙ sym here)) stands_then;
    others = λ index out. ap (λ (w : List ℕ). slice_index w index) words_are
        ∙ get_or-set_other s.words (start + 1) index (word_left a s q.v) 0 (λ same. out (let least = words_least q.o in record {
          name = q.name;
          o = q.o;
          there = q.there;
          settled = q.settled;
          here = q.here;
          is_kind = ap kind_of q.contents;
          from = omega arith;
          below = omega arith;
        }));
  }

-- what is no weak pointer stays
pub not-rewritten : (a : NamedHeap) (s : CopyState) (kind : Kind) (start : ℕ) → IsPlacedSoFar a s → (name : ℕ) (at : IsWeakAt a s name start) → kind_of at.o.contents ≢ kind →
    IsRewritten a s s kind start
not-rewritten a s kind start h name at other = record {
  same = refl;
  places = h;
  after = λ x o there settled here is. absurd (other (ap (λ (q : Object). kind_of q.contents) (same-object a s h name x at.o o at.there there (at.here ∙ sym here)) ∙ is));
  others = λ index out. refl;
}

pub kind-told : (a : NamedHeap) (s : CopyState) (kind : Kind) (start : ℕ) → IsPlacedSoFar a s → (q : IsWeakStart a s kind start) → (words : List ℕ) → words ≡ s.words → (found : Kind) →
    ((k : Kind) (n : ℕ) → IsHeader (slice_index words start) k n → found ≡ k) → found ≡ kind_of q.at.o.contents
kind-told a s kind start h q words same found told =
    told (kind_of q.at.o.contents) (payload_of q.at.o.contents)
    (subst (λ (w : List ℕ). IsHeader (slice_index w start) (kind_of q.at.o.contents) (payload_of q.at.o.contents)) (sym same) (start-header a s kind start h q))
