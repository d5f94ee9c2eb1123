-- One field is scanned: its word is evacuated, and written where it changed.
use Rattle.std.proofs.Common.{◌≡◌, ℕ, ◌+◌, List, set, Option, Some, true, inl, inr, sym, ◌∙◌, ap, subst, arith}
use Rattle.std.proofs.lemmas.List.{get_or-set_same}
use Rattle.std.specs.Prelude.{slice_index}
use Rattle.heap_terms.specs.declared.cells.Value.{Value}
use Rattle.heap_terms.specs.declared.cells.Value.TheVariants.{Fix, Nil, Unbound, Ref}
use Rattle.heap_terms.specs.Heap.{NamedHeap, object_at}
use Rattle.heap_terms.specs.Live.{is_live}
use Rattle.heap_terms.specs.Living.{IsLiving, IsLivingOrUnbound}
use Rattle.heap_terms.specs.Objects.{Object}
use Rattle.heap_terms.specs.Slots.{Val, slot_at}
use Rattle.copy_space.specs.Copying.{CanEvacuate, Evacuates}
use Rattle.copy_space.specs.Midway.{Midway}
use Rattle.copy_space.specs.Moved.{new_of}
use Rattle.copy_space.specs.Settled.{IsWordOf, IsNewWord}
use Rattle.copy_space.specs.State.{CopyState}
use Rattle.copy_space.proofs.FrameLaws.{Follows-from_Goes}
use Rattle.copy_space.proofs.Rewriting.{written, midway-written, follows-written}
use Rattle.copy_space.proofs.Shapes.{slot-below}
use Rattle.scavenge.specs.Fields.{IsFieldAt, CanScanFields, AreNew}
use Rattle.scavenge.specs.Scanning.{Scans, IsReachedFrom}
use Rattle.scavenge.proofs.Frames.{scans-on}
use Rattle.scavenge.proofs.Shapes.{field_living}

living-or : (objects : List (Option Object)) (v : Value) → IsLiving objects v → IsLivingOrUnbound objects v
living-or objects (Fix n) h = h
living-or objects Nil h = h
living-or objects Unbound h = absurd h
living-or objects (Ref x) h = h

-- the word of a field is one that evacuation takes
pub field-word : (a : NamedHeap) (s : CopyState) → Midway a s → (name : ℕ) (o : Object) → object_at a.objects name ≡ Some o → (i : ℕ) (v : Value) →
    slot_at o.contents i ≡ Some (Val v) → IsWordOf a s v (slice_index s.words (new_of s.moves o.place + i))
field-word a s h name o e i v f = record {
  living = living-or a.objects v (field_living a.objects o.contents i v f (h.places.sound.objects name o e).contents);
  either = h.spelled.slots name o e i (Val v) f;
}

pub field-at : (a : NamedHeap) (s : CopyState) (index : ℕ) → CanScanFields a s index 1 → IsFieldAt a s index
field-at a s index can = (let same : index + 0 ≡ index = omega arith in subst (λ (i : ℕ). IsFieldAt a s i) same (can.fields 0 (omega arith)))

pub can-evacuate : (a : NamedHeap) (s : CopyState) (index word : ℕ) → CanScanFields a s index 1 → word ≡ slice_index s.words index → CanEvacuate a s word
can-evacuate a s index word can is =
    let f = field-at a s index can in
    record {
      midway = can.midway;
      value = f.v;
      is_word = subst (λ (w : ℕ). IsWordOf a s f.v w) (ap (λ (i : ℕ). slice_index s.words i) f.here ∙ sym is) (field-word a s can.midway f.name f.o f.there f.i f.v f.field);
    }

module _ (a : NamedHeap) (s t : CopyState) (index word now : ℕ) (can : CanScanFields a s index 1) (is : word ≡ slice_index s.words index) (e : Evacuates a s t word now) where
  abbrev at : IsFieldAt a s index
  at = field-at a s index can

  word_at : IsWordOf a s at.v word
  word_at = subst (λ (w : ℕ). IsWordOf a s at.v w) (ap (λ (i : ℕ). slice_index s.words i) at.here ∙ sym is) (field-word a s can.midway at.name at.o at.there at.i at.v at.field)

  -- what is newly settled is the field's value
  reached : IsReachedFrom a s t
  reached = λ set fields has name settled.
      (elim ((e.each at.v word_at).only name settled) [
        | inl before ↦ has name before
        | inr same ↦ subst (λ (v : Value). is_live set v ≡ true) same (fields at.name at.o at.there (has at.name at.settled) at.i at.v at.field)
      ])

  pub scans-evacuated : Scans a s t
  scans-evacuated = record { midway = e.midway; follows = Follows-from_Goes a s t can.midway e.goes; reached = reached }

  -- each field at the index has the answer for its word
  answer : (name : ℕ) (o : Object) → object_at a.objects name ≡ Some o → (i : ℕ) (v : Value) → slot_at o.contents i ≡ Some (Val v) → new_of s.moves o.place + i ≡ index →
      IsNewWord a t v now
  answer name o there i v f here =
      (e.each v (subst (λ (w : ℕ). IsWordOf a s v w) (ap (λ (j : ℕ). slice_index s.words j) here ∙ sym is) (field-word a s can.midway name o there i v f))).answer

  -- where the word is the same, nothing is written
  pub new-unchanged : now ≡ word → AreNew a s t index 1
  new-unchanged same = λ name o there settled i v f low high.
      (let here : new_of s.moves o.place + i ≡ index = omega arith in
      let below = slot-below o.contents (can.midway.places.sound.objects name o there).shape i (Val v) f in
      let place = e.goes.grows.places name o there settled in
      let word_is : slice_index t.words (new_of t.moves o.place + i) ≡ now =
      ap (λ (p : ℕ). slice_index t.words (p + i)) place ∙ e.goes.words name o there settled i below ∙ ap (λ (j : ℕ). slice_index s.words j) here ∙ sym is ∙ sym same in
      subst (λ (w : ℕ). IsNewWord a t v w) (sym word_is) (answer name o there i v f here))

  place_then : new_of t.moves at.o.place + at.i ≡ index
  place_then = ap (λ (p : ℕ). p + at.i) (e.goes.grows.places at.name at.o at.there at.settled) ∙ at.here

  scans_write : Scans a t (written t index now)
  scans_write = subst (λ (j : ℕ). Scans a t (written t j now)) place_then (record {
    midway = midway-written a t e.midway at.name at.o at.there at.i at.v at.field now (answer at.name at.o at.there at.i at.v at.field at.here);
    follows = follows-written a t e.midway at.name at.o at.there at.i at.v at.field now (answer at.name at.o at.there at.i at.v at.field at.here);
    reached = λ set fields has name settled. has name settled;
  })

  pub scans-written : Scans a s (written t index now)
  scans-written = scans-on a s t (written t index now) scans-evacuated scans_write

  pub new-written : AreNew a s (written t index now) index 1
  new-written = λ name o there settled i v f low high.
      (let here : new_of s.moves o.place + i ≡ index = omega arith in
      let place : new_of t.moves o.place + i ≡ index = ap (λ (p : ℕ). p + i) (e.goes.grows.places name o there settled) ∙ here in
      let long = e.midway.places.long in
      let long_before = can.midway.places.long in
      let inside = can.inside in
      let word_is : slice_index (set t.words index now) (new_of t.moves o.place + i) ≡ now =
      ap (λ (j : ℕ). slice_index (set t.words index now) j) place ∙ get_or-set_same t.words index now 0 (omega arith) in
      let new = answer name o there i v f here in
      subst (λ (w : ℕ). IsNewWord a (written t index now) v w) (sym word_is) (record { settled = new.settled; is = new.is }))
