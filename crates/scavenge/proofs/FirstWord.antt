-- One object is scanned: its first word tells its fields.
use Rattle.std.proofs.Common.{◌≡◌, ◌≢◌, ℕ, ℤ, pos, negsuc, ◌+◌, ◌%◌, ◌<◌, ◌≤◌, ◌⊎◌, List, length, Option, Some, None, IsSome, true, inl, inr, refl, sym, ◌∙◌, ap, subst, arith}
use Rattle.std.specs.Prelude.{slice_index}
use Rattle.heap_terms.specs.declared.cells.Value.{Value}
use Rattle.heap_terms.specs.declared.cells.Value.TheVariants.{Fix, Nil, Unbound, Ref}
use Rattle.heap_terms.specs.declared.kinds.Kind.{Kind}
use Rattle.heap_terms.specs.declared.kinds.Kind.TheVariants as kinds
use Rattle.heap_terms.specs.Heap.{NamedHeap, object_at}
use Rattle.heap_terms.specs.Layout.{fixnum_word, header_of, reference_word, size_of}
use Rattle.heap_terms.specs.Living.{IsLiving}
use Rattle.heap_terms.specs.Objects.{Object, kind_of, payload_of, words_of_object}
use Rattle.heap_terms.specs.Slots.{Val, Raw}
use Rattle.heap_terms.specs.Spelling.{word_of, word_of_object}
use Rattle.heap_terms.specs.Valid.{IsFixnum}
use Rattle.lisp_words.specs.Tagged.{IsHeader}
use Rattle.pass_laws.proofs.Sizes.{words_least}
use Rattle.copy_space.specs.Frames.{IsScanned}
use Rattle.copy_space.specs.Midway.{Midway}
use Rattle.copy_space.specs.Moved.{new_of, objects_now}
use Rattle.copy_space.specs.Settled.{is_settled, IsEitherWord}
use Rattle.copy_space.specs.State.{CopyState}
use Rattle.copy_space.proofs.Names.{now-there}
use Rattle.copy_space.proofs.Places.{now_inside}
use Rattle.copy_space.proofs.Referents.{ms, its}
use Rattle.copy_space.proofs.Shapes.{header_leads, payload-most, slot-below}
use Rattle.scavenge.specs.Fields.{IsFieldAt, CanScanFields, AreNew, CanScanObject, CanScanHeaded, fields_behind}
use Rattle.scavenge.specs.Scanning.{Scans}
use Rattle.scavenge.proofs.Frames.{field-stays, long-stays, new-on}
use Rattle.scavenge.proofs.Shapes.{field_living, field_is_behind, behind_is_field, cons_is_field}

-- no living value's word is 1 modulo 4
fixnum_even : (n : ℤ) → IsFixnum n → fixnum_word n % 2 ≡ 0
fixnum_even (pos n) h = omega (arith, h)
fixnum_even (negsuc n) h = omega (arith, h)

reference_three : (place : ℕ) (kind : Kind) → reference_word place kind % 4 ≡ 3
reference_three place kinds.Cons = omega arith
reference_three place kinds.Vector = omega arith
reference_three place kinds.Instance = omega arith
reference_three place kinds.Closure = omega arith
reference_three place kinds.Words = omega arith
reference_three place kinds.Weak = omega arith
reference_three place kinds.Table = omega arith

object_word : (r : Option Object) → IsSome r → word_of_object r % 4 ≢ 1
object_word None there e = cc
object_word (Some o) there e = omega (arith, reference_three o.place (kind_of o.contents), e)

value_word : (objects : List (Option Object)) (v : Value) → IsLiving objects v → word_of objects v % 4 ≢ 1
value_word objects (Fix n) h e = omega (arith, fixnum_even n h, e)
value_word objects Nil h e = omega (arith, e)
value_word objects Unbound h e = absurd h
value_word objects (Ref name) h e = object_word (object_at objects name) h e

living_now : (a : NamedHeap) (s : CopyState) (v : Value) → IsLiving a.objects v → IsLiving (objects_now a s.moves) v
living_now a s (Fix n) h = h
living_now a s Nil h = h
living_now a s Unbound h = h
living_now a s (Ref name) h = go (object_at a.objects name) refl h
  where
    go : (q : Option Object) → object_at a.objects name ≡ q → IsSome q → IsSome (object_at (objects_now a s.moves) name)
    go None e none = (let never : ⊥ = cc in absurd never)
    go (Some o) e some = subst (λ (q : Option Object). IsSome q) (sym (now-there a s.moves name o e)) refl

either_word : (a : NamedHeap) (s : CopyState) (v : Value) (word : ℕ) → IsLiving a.objects v → IsEitherWord a s v word → word % 4 ≢ 1
either_word a s v word living (inl before) e = value_word a.objects v living (ap (λ (w : ℕ). w % 4) (sym before) ∙ e)
either_word a s v word living (inr now) e = value_word (objects_now a s.moves) v (living_now a s v living) (ap (λ (w : ℕ). w % 4) (sym now.is) ∙ e)

pub header_one : (kind : Kind) (n : ℕ) → kind ≢ kinds.Cons → header_of kind n % 4 ≡ 1
header_one kinds.Cons n headed = absurd (headed refl)
header_one kinds.Vector n headed = omega arith
header_one kinds.Instance n headed = omega arith
header_one kinds.Closure n headed = omega arith
header_one kinds.Words n headed = omega arith
header_one kinds.Weak n headed = omega arith
header_one kinds.Table n headed = omega arith

pub is_cons : (kind : Kind) → (kind ≡ kinds.Cons) ⊎ (kind ≢ kinds.Cons)
is_cons kinds.Cons = inl refl
is_cons kinds.Vector = inr (λ e. cc)
is_cons kinds.Instance = inr (λ e. cc)
is_cons kinds.Closure = inr (λ e. cc)
is_cons kinds.Words = inr (λ e. cc)
is_cons kinds.Weak = inr (λ e. cc)
is_cons kinds.Table = inr (λ e. cc)

-- the fields behind a header lie in the object
fields_within : (kind : Kind) (n : ℕ) → kind ≢ kinds.Cons → 1 + fields_behind kind n ≤ size_of kind n
fields_within kinds.Cons n headed = absurd (headed refl)
fields_within kinds.Vector n headed = omega arith
fields_within kinds.Instance n headed = omega arith
fields_within kinds.Closure n headed = omega arith
fields_within kinds.Words n headed = omega arith
fields_within kinds.Weak n headed = omega arith
fields_within kinds.Table n headed = omega arith

module _ (a : NamedHeap) (s : CopyState) (h : Midway a s) (name : ℕ) (o : Object) (there : object_at a.objects name ≡ Some o) where
  first_at : slice_index s.words (new_of s.moves o.place + 0) ≡ slice_index s.words (new_of s.moves o.place)
  first_at = (let same : new_of s.moves o.place + 0 ≡ new_of s.moves o.place = omega arith in ap (λ (i : ℕ). slice_index s.words i) same)

  -- the first word of an object with a header
  pub header-word : kind_of o.contents ≢ kinds.Cons → IsHeader (slice_index s.words (new_of s.moves o.place)) (kind_of o.contents) (payload_of o.contents)
  header-word headed =
      let object = h.places.sound.objects name o there in
      let most = payload-most o.contents object.shape in
      record {
        headed = headed;
        below = omega arith;
        word_is = sym first_at ∙ h.spelled.slots name o there 0 (Raw (header_of (kind_of o.contents) (payload_of o.contents))) (header_leads o.contents object.shape headed);
      }

  pub headed-by_word : slice_index s.words (new_of s.moves o.place) % 4 ≡ 1 → kind_of o.contents ≢ kinds.Cons
  headed-by_word one cons =
      let object = h.places.sound.objects name o there in
      let field = cons_is_field o.contents cons 0 (omega arith) in
      either_word a s field.0 (slice_index s.words (new_of s.moves o.place + 0)) (field_living a.objects o.contents 0 field.0 field.1 object.contents)
      (h.spelled.slots name o there 0 (Val field.0) field.1) (ap (λ (w : ℕ). w % 4) first_at ∙ one)

  pub cons-by_word : slice_index s.words (new_of s.moves o.place) % 4 ≢ 1 → kind_of o.contents ≡ kinds.Cons
  cons-by_word other = elim (is_cons (kind_of o.contents)) [
    | inl cons ↦ cons
    | inr headed ↦ absurd (other (ap (λ (w : ℕ). w % 4) (header-word headed).word_is ∙ header_one (kind_of o.contents) (payload_of o.contents) headed))
  ]

  pub object-inside : new_of s.moves o.place + words_of_object o ≤ length s.words
  object-inside = (let inside = now_inside a s (ms a s h.places) h.places.sound (its a s h.places) name o there in let long = h.places.long in omega arith)

-- the fields behind a header
pub fields-behind : (a : NamedHeap) (s : CopyState) (index word count : ℕ) → CanScanHeaded a s index → word ≡ slice_index s.words index →
    ((kind : Kind) (n : ℕ) → IsHeader word kind n → count ≡ fields_behind kind n) → CanScanFields a s (index + 1) count
fields-behind a s index word count can is counted =
    let at = can.at in
    let one : slice_index s.words (new_of s.moves at.o.place) % 4 ≡ 1 = ap (λ (i : ℕ). slice_index s.words i % 4) at.here ∙ can.header in
    let headed = headed-by_word a s can.midway at.name at.o at.there one in
    let header = header-word a s can.midway at.name at.o at.there headed in
    let word_at : slice_index s.words (new_of s.moves at.o.place) ≡ word = ap (λ (i : ℕ). slice_index s.words i) at.here ∙ sym is in
    let count_is = counted (kind_of at.o.contents) (payload_of at.o.contents) (subst (λ (w : ℕ). IsHeader w (kind_of at.o.contents) (payload_of at.o.contents)) word_at header) in
    let within = fields_within (kind_of at.o.contents) (payload_of at.o.contents) headed in
    let inside = object-inside a s can.midway at.name at.o at.there in
    let here = at.here in
    record {
      midway = can.midway;
      inside = omega arith;
      fields = λ k l. (
          let below : k < fields_behind (kind_of at.o.contents) (payload_of at.o.contents) = omega arith in
          let field = behind_is_field at.o.contents k below in
          record { name = at.name; o = at.o; there = at.there; settled = at.settled; i = 1 + k; v = field.0; field = field.1; here = omega arith });
    }

-- the settled object that lay at an index is scanned
abbrev pub IsScannedAt : NamedHeap → CopyState → CopyState → ℕ → Type 0
IsScannedAt a s t index = (name : ℕ) (o : Object) → object_at a.objects name ≡ Some o → is_settled a s name ≡ true → new_of s.moves o.place ≡ index → IsScanned a t o

-- where they are new, the object is scanned
pub headed-scanned : (a : NamedHeap) (s t : CopyState) (index word count : ℕ) → CanScanHeaded a s index → word ≡ slice_index s.words index →
    ((kind : Kind) (n : ℕ) → IsHeader word kind n → count ≡ fields_behind kind n) → AreNew a s t (index + 1) count → IsScannedAt a s t index
headed-scanned a s t index word count can is counted new = λ name o there settled here i v f.
    (let one : slice_index s.words (new_of s.moves o.place) % 4 ≡ 1 = ap (λ (i : ℕ). slice_index s.words i % 4) here ∙ can.header in
    let headed = headed-by_word a s can.midway name o there one in
    let header = header-word a s can.midway name o there headed in
    let word_at : slice_index s.words (new_of s.moves o.place) ≡ word = ap (λ (i : ℕ). slice_index s.words i) here ∙ sym is in
    let count_is = counted (kind_of o.contents) (payload_of o.contents) (subst (λ (w : ℕ). IsHeader w (kind_of o.contents) (payload_of o.contents)) word_at header) in
    let at = field_is_behind o.contents headed i v f in
    let from = at.from in
    let below = at.below in
    new name o there settled i v f (omega arith) (omega arith))

-- a cons
pub cons-field : (a : NamedHeap) (s : CopyState) (index : ℕ) → CanScanObject a s index → slice_index s.words index % 4 ≢ 1 → (k : ℕ) → k < 2 → IsFieldAt a s (index + k)
cons-field a s index can other k l =
    let at = can.at in
    let cons = cons-by_word a s can.midway at.name at.o at.there (λ one. other (ap (λ (i : ℕ). slice_index s.words i % 4) (sym at.here) ∙ one)) in
    let field = cons_is_field at.o.contents cons k l in
    record { name = at.name; o = at.o; there = at.there; settled = at.settled; i = k; v = field.0; field = field.1; here = ap (λ (p : ℕ). p + k) at.here }

pub cons-inside : (a : NamedHeap) (s : CopyState) (index : ℕ) → CanScanObject a s index → slice_index s.words index % 4 ≢ 1 → index + 2 ≤ length s.words
cons-inside a s index can other =
    let at = can.at in
    let cons = cons-by_word a s can.midway at.name at.o at.there (λ one. other (ap (λ (i : ℕ). slice_index s.words i % 4) (sym at.here) ∙ one)) in
    let inside = object-inside a s can.midway at.name at.o at.there in
    let size : words_of_object at.o ≡ 2 = ap (λ (kind : Kind). size_of kind (payload_of at.o.contents)) cons in
    let here = at.here in
    omega arith

pub cons-first : (a : NamedHeap) (s : CopyState) (index : ℕ) → CanScanObject a s index → slice_index s.words index % 4 ≢ 1 → CanScanFields a s index 1
cons-first a s index can other =
    let inside = cons-inside a s index can other in
    record {
      midway = can.midway;
      inside = omega arith;
      fields = λ k l. cons-field a s index can other k (omega arith);
    }

pub cons-second : (a : NamedHeap) (s t : CopyState) (index : ℕ) → CanScanObject a s index → slice_index s.words index % 4 ≢ 1 → Scans a s t → CanScanFields a t (index + 1) 1
cons-second a s t index can other h =
    let inside = cons-inside a s index can other in
    let long = long-stays a s t can.midway h.midway in
    record {
      midway = h.midway;
      inside = omega arith;
      fields = λ k l. (
          let same : index + (1 + k) ≡ index + 1 + k = omega arith in
          field-stays a s t (index + 1 + k) h.follows.grows (subst (λ (i : ℕ). IsFieldAt a s i) same (cons-field a s index can other (1 + k) (omega arith))));
    }

pub cons-scanned : (a : NamedHeap) (s t u : CopyState) (index : ℕ) → CanScanObject a s index → slice_index s.words index % 4 ≢ 1 → Scans a s t → Scans a t u →
    AreNew a s t index 1 → AreNew a t u (index + 1) 1 → IsScannedAt a s u index
cons-scanned a s t u index can other h k first second = λ name o there settled here i v f.
    (let both = new-on a s t u index 1 1 h k first second in
    let cons = cons-by_word a s can.midway name o there (λ one. other (ap (λ (i : ℕ). slice_index s.words i % 4) (sym here) ∙ one)) in
    let size : words_of_object o ≡ 2 = ap (λ (kind : Kind). size_of kind (payload_of o.contents)) cons in
    let below = slot-below o.contents (can.midway.places.sound.objects name o there).shape i (Val v) f in
    both name o there settled i v f (omega arith) (omega arith))

pub object-at_inside : (a : NamedHeap) (s : CopyState) (index : ℕ) → CanScanObject a s index → index + 2 ≤ length s.words
object-at_inside a s index can =
    let at = can.at in
    let inside = object-inside a s can.midway at.name at.o at.there in
    let least = words_least at.o in
    let here = at.here in
    omega arith
