-- Where the fields and the raw words of an object lie.
use Rattle.std.proofs.Common.{◌≡◌, ℕ, ◌+◌, ◌^◌, ◌<◌, ◌≤◌, List, [], ◌∷◌, length, refl, sym, ◌∙◌, subst, ap, arith, get_or, Some, None, Option}
use Rattle.std.specs.Prelude.{slice_index, option_and_then}
use Rattle.heap_terms.specs.declared.cells.Value.{Value}
use Rattle.heap_terms.specs.declared.kinds.Kind.{Kind}
use Rattle.heap_terms.specs.declared.kinds.Kind.TheVariants as kinds
use Rattle.heap_terms.specs.Heap.{object_at, zero_value}
use Rattle.heap_terms.specs.Layout.{size_of}
use Rattle.heap_terms.specs.Objects.{Object, Contents, ConsOf, VectorOf, InstanceOf, ClosureOf, WordsOf, WeakTo, TableOf, kind_of, payload_of, fields_of}
use Rattle.heap_terms.specs.Referents.{name_in, contents_of, contents_at, fields_at, raws_at, raws_of}
use Rattle.heap_terms.specs.Slots.{Val, Raw, slot_at}
use Rattle.heap_terms.specs.WellFormed.{IsLiving}
use Rattle.heap_terms.specs.Spelling.{word_of}
use Rattle.heap_laws.proofs.Reading.{fields_living}
use Rattle.lisp_heap.specs.LivingWords.{RefersTo, IsReferent, IsPayload, AreFields, AreRaws, header_words}
use Rattle.lisp_heap.specs.WorldSound.{IsSound, view_of}
use Rattle.lisp_heap.specs.View.{View, heap_of}
use Rattle.lisp_heap.specs.declared.referents.Referent.{Referent}
use Rattle.lisp_heap.specs.declared.referents.Span.{Span}
use Rattle.lisp_heap.specs.declared.world.World.TheInside.{Inside}
use Rattle.lisp_heap.proofs.Referring.{object_known, slot_word}
use Rattle.lisp_heap.proofs.SlotChanges.{fields_payload, field_slot, raw_slot}
use Rattle.lisp_heap.proofs.Soundness.{heap, well_formed}

-- ---- what a referent has

-- a value that refers to nothing has nothing
pub nowhere_fields : (objects : List (Option Object)) (v : Value) → name_in v ≡ None → fields_at objects v ≡ None
nowhere_fields objects v none = ap (λ (o : Option ℕ). option_and_then fields_of (option_and_then (λ name. contents_of (object_at objects name)) o)) none

pub nowhere_raws : (objects : List (Option Object)) (v : Value) → name_in v ≡ None → raws_at objects v ≡ None
nowhere_raws objects v none = ap (λ (o : Option ℕ). option_and_then raws_of (option_and_then (λ name. contents_of (object_at objects name)) o)) none

-- what a value has that refers to an object
at_object : (objects : List (Option Object)) (v : Value) (o : Object) → RefersTo objects v o → contents_at objects v ≡ Some o.contents
at_object objects v o r = ap (contents_at objects) r.value_is ∙ ap contents_of r.there

-- kinds with fields
abbrev pub HasFieldsKind : Kind → Type 0
HasFieldsKind kinds.Cons = Unit {0}
HasFieldsKind kinds.Vector = Unit {0}
HasFieldsKind kinds.Instance = Unit {0}
HasFieldsKind kinds.Closure = Unit {0}
HasFieldsKind kinds.Words = ⊥
HasFieldsKind kinds.Weak = ⊥
HasFieldsKind kinds.Table = ⊥

kind_fields : (k : Contents) → HasFieldsKind (kind_of k) → (vs : List Value) × (fields_of k ≡ Some vs)
kind_fields (ConsOf a b) h = (a ∷ b ∷ [], refl)
kind_fields (VectorOf vs) h = (vs, refl)
kind_fields (InstanceOf vs) h = (vs, refl)
kind_fields (ClosureOf vs) h = (vs, refl)
kind_fields (WordsOf ws) h = absurd h
kind_fields (WeakTo v) h = absurd h
kind_fields (TableOf w b pairs) h = absurd h

no_kind_fields : (k : Contents) → (HasFieldsKind (kind_of k) → ⊥) → fields_of k ≡ None
no_kind_fields (ConsOf a b) h = absurd (h tt)
no_kind_fields (VectorOf vs) h = absurd (h tt)
no_kind_fields (InstanceOf vs) h = absurd (h tt)
no_kind_fields (ClosureOf vs) h = absurd (h tt)
no_kind_fields (WordsOf ws) h = refl
no_kind_fields (WeakTo v) h = refl
no_kind_fields (TableOf w b pairs) h = refl

kind_raws : (k : Contents) → kind_of k ≡ kinds.Words → (ws : List ℕ) × (raws_of k ≡ Some ws)
kind_raws (ConsOf a b) e = cc
kind_raws (VectorOf vs) e = cc
kind_raws (InstanceOf vs) e = cc
kind_raws (ClosureOf vs) e = cc
kind_raws (WordsOf ws) e = (ws, refl)
kind_raws (WeakTo v) e = cc
kind_raws (TableOf w b pairs) e = cc

no_kind_raws : (k : Contents) → (kind_of k ≡ kinds.Words → ⊥) → raws_of k ≡ None
no_kind_raws (ConsOf a b) h = refl
no_kind_raws (VectorOf vs) h = refl
no_kind_raws (InstanceOf vs) h = refl
no_kind_raws (ClosureOf vs) h = refl
no_kind_raws (WordsOf ws) h = absurd (h refl)
no_kind_raws (WeakTo v) h = refl
no_kind_raws (TableOf w b pairs) h = refl

-- the fields of a referent, and that it has none
pub referent_fields : (objects : List (Option Object)) (v : Value) (r : Referent) (span : Span) → IsReferent objects v (Some r) → HasFieldsKind r.kind →
    span.first ≡ r.index + header_words r.kind → span.count ≡ r.n → AreFields objects v (Some span)
referent_fields objects v r span is has first count =
    let fields = kind_fields (is.0).contents (subst HasFieldsKind is.3 has) in (
      record {
        object = is.0;
        refers = is.1;
        first = first ∙ ap (λ (n : ℕ). n + header_words r.kind) is.2 ∙ ap (λ (k : Kind). (is.0).place + header_words k) is.3;
        count = count ∙ is.4;
      },
      fields.0,
      fields.1,
    )

pub referent_no_fields : (objects : List (Option Object)) (v : Value) (r : Referent) → IsReferent objects v (Some r) → (HasFieldsKind r.kind → ⊥) → fields_at objects v ≡ None
referent_no_fields objects v r is none =
    ap (option_and_then fields_of) (at_object objects v (is.0) is.1) ∙ no_kind_fields (is.0).contents (λ has. none (subst HasFieldsKind (sym is.3) has))

-- its raw words, and that it has none
pub referent_raws : (objects : List (Option Object)) (v : Value) (r : Referent) (span : Span) → IsReferent objects v (Some r) → r.kind ≡ kinds.Words →
    span.first ≡ r.index + 1 → span.count ≡ r.n → AreRaws objects v (Some span)
referent_raws objects v r span is words first count =
    let is_words : kind_of (is.0).contents ≡ kinds.Words = sym is.3 ∙ words in
    let raws = kind_raws (is.0).contents is_words in (
      record {
        object = is.0;
        refers = is.1;
        first = first ∙ ap (λ (n : ℕ). n + 1) is.2 ∙ ap (λ (k : Kind). (is.0).place + header_words k) (sym is_words);
        count = count ∙ is.4;
      },
      raws.0,
      raws.1,
    )

pub referent_no_raws : (objects : List (Option Object)) (v : Value) (r : Referent) → IsReferent objects v (Some r) → (r.kind ≡ kinds.Words → ⊥) → raws_at objects v ≡ None
referent_no_raws objects v r is none =
    ap (option_and_then raws_of) (at_object objects v (is.0) is.1) ∙ no_kind_raws (is.0).contents (λ words. none (is.3 ∙ words))

-- ---- where they lie

headed_size : (k : Contents) → header_words (kind_of k) + payload_of k ≤ size_of (kind_of k) (payload_of k)
headed_size (ConsOf a b) = omega arith
headed_size (VectorOf vs) = omega arith
headed_size (InstanceOf vs) = omega arith
headed_size (ClosureOf vs) = omega arith
headed_size (WordsOf ws) = omega arith
headed_size (WeakTo v) = omega arith
headed_size (TableOf w b pairs) = omega arith

-- the index behind the first word of a referent is a number of 32 bits
index_small_in : (s : Inside) → IsSound s → (v : Value) (r : Referent) → IsReferent (heap s).objects v (Some r) → r.index + 1 < 2 ^ 32
index_small_in s h v r is =
    let k = object_known s h (is.1).name (is.0) (is.1).there in
    omega (arith, is.2, k.below)

pub index_small : (s : Inside) (w : View) → IsSound s → view_of s ≡ w → (v : Value) (r : Referent) → IsReferent (heap_of w).objects v (Some r) → r.index + 1 < 2 ^ 32
index_small s w h e v r is = index_small_in s h v r (subst (λ (x : View). IsReferent (heap_of x).objects v (Some r)) (sym e) is)

-- a payload lies in the space, which is small
pub record IsInside (s : Inside) (span : Span) : Type 0 where
  pub inside : span.first + span.count ≤ length s.space
  pub small : length s.space ≤ 524288

payload_in : (s : Inside) → IsSound s → (v : Value) (span : Span) → IsPayload (heap s).objects v span → IsInside s span
payload_in s h v span p =
    let k = object_known s h p.refers.name p.object p.refers.there in
    record {
      inside = omega (arith, k.inside, p.first, p.count, headed_size p.object.contents);
      small = omega (arith, h.holds.words.long, (well_formed s h).pages_length, h.valid.pages_most);
    }

pub payload_inside : (s : Inside) (w : View) → IsSound s → view_of s ≡ w → (v : Value) (span : Span) → IsPayload (heap_of w).objects v span → IsInside s span
payload_inside s w h e v span p = payload_in s h v span (subst (λ (x : View). IsPayload (heap_of x).objects v span) (sym e) p)

-- the word at a field is that of the field, which is living
pub record FieldAt (s : Inside) (w : View) (span : Span) (fields : List Value) (i : ℕ) : Type 0 where
  pub low : i < length fields
  pub word_is : slice_index s.space (span.first + i) ≡ word_of (heap_of w).objects (get_or fields i zero_value)
  pub living : IsLiving (heap_of w).objects (get_or fields i zero_value)

field_in : (s : Inside) → IsSound s → (v : Value) (span : Span) (fields : List Value) (i : ℕ) → (p : IsPayload (heap s).objects v span) →
    fields_of p.object.contents ≡ Some fields → i < span.count → FieldAt s (view_of s) span fields i
field_in s h v span fields i p are low =
    let o = p.object in
    let below : i < length fields = omega (arith, low, p.count, fields_payload o.contents fields are) in
    let k = object_known s h p.refers.name o p.refers.there in
    let word = slot_word s h p.refers.name k (header_words (kind_of o.contents) + i) (Val (get_or fields i zero_value)) (field_slot o.contents fields i are below) in
    record {
      low = below;
      word_is = ap (slice_index s.space) (omega (arith, p.first)) ∙ word;
      living = fields_living (heap s).objects o.contents fields are ((well_formed s h).sound.objects p.refers.name o p.refers.there).contents i;
    }

-- the words of a list at which raw words lie
pub record RawAt (s : Inside) (span : Span) (ws : List ℕ) (i : ℕ) : Type 0 where
  pub low : i < length ws
  pub word_is : slice_index s.space (span.first + i) ≡ get_or ws i 0

pub raws_contents : (k : Contents) (ws : List ℕ) → raws_of k ≡ Some ws → k ≡ WordsOf ws
raws_contents (ConsOf a b) ws e = cc
raws_contents (VectorOf vs) ws e = cc
raws_contents (InstanceOf vs) ws e = cc
raws_contents (ClosureOf vs) ws e = cc
raws_contents (WordsOf us) ws e = let same : us ≡ ws = cc in ap WordsOf same
raws_contents (WeakTo v) ws e = cc
raws_contents (TableOf w b pairs) ws e = cc

pub raws_payload : (k : Contents) (ws : List ℕ) → raws_of k ≡ Some ws → payload_of k ≡ length ws
raws_payload k ws e = ap (λ (z : Contents). payload_of z) (raws_contents k ws e)

raw_in : (s : Inside) → IsSound s → (v : Value) (span : Span) (ws : List ℕ) (i : ℕ) → (p : IsPayload (heap s).objects v span) →
    raws_of p.object.contents ≡ Some ws → i < span.count → RawAt s span ws i
raw_in s h v span ws i p are low =
    let o = p.object in
    let is : o.contents ≡ WordsOf ws = raws_contents o.contents ws are in
    let below : i < length ws = omega (arith, low, p.count, ap (λ (k : Contents). payload_of k) is) in
    let k = object_known s h p.refers.name o p.refers.there in
    let word = slot_word s h p.refers.name k (1 + i) (Raw (get_or ws i 0)) (ap (λ (k : Contents). slot_at k (1 + i)) is ∙ raw_slot ws i below) in
    record {
      low = below;
      word_is = ap (slice_index s.space) (omega (arith, p.first, ap (λ (k : Contents). header_words (kind_of k)) is)) ∙ word;
    }

pub field_at : (s : Inside) (w : View) → IsSound s → view_of s ≡ w → (v : Value) (span : Span) (fields : List Value) (i : ℕ) → (p : IsPayload (heap_of w).objects v span) →
    fields_of p.object.contents ≡ Some fields → i < span.count → FieldAt s w span fields i
field_at s w h e v span fields i =
    subst (λ (x : View). (p : IsPayload (heap_of x).objects v span) → fields_of p.object.contents ≡ Some fields → i < span.count → FieldAt s x span fields i) e
    (field_in s h v span fields i)

pub raw_at : (s : Inside) (w : View) → IsSound s → view_of s ≡ w → (v : Value) (span : Span) (ws : List ℕ) (i : ℕ) → (p : IsPayload (heap_of w).objects v span) →
    raws_of p.object.contents ≡ Some ws → i < span.count → RawAt s span ws i
raw_at s w h e v span ws i =
    subst (λ (x : View). (p : IsPayload (heap_of x).objects v span) → raws_of p.object.contents ≡ Some ws → i < span.count → RawAt s span ws i) e
    (raw_in s h v span ws i)
