-- To what the words of a sound World refer.
use Rattle.std.proofs.Common.{◌≡◌, ◌≢◌, ℕ, ◌+◌, ◌*◌, ◌/◌, ◌%◌, ◌<◌, ◌≤◌, length, refl, ◌∙◌, subst, ap, arith, get_or, Some, None, pos, negsuc, ℤ, inl, inr, ◌⊎◌, true, false}
use Rattle.std.proofs.lemmas.Bool.{cases_eq, cases_Bool}
use Rattle.std.specs.Prelude.{slice_index}
use Rattle.heap_terms.specs.declared.cells.Value.{Value}
use Rattle.heap_terms.specs.declared.cells.Value.TheVariants.{Fix, Nil, Unbound, Ref}
use Rattle.heap_terms.specs.declared.kinds.Kind.{Kind}
use Rattle.heap_terms.specs.declared.kinds.Kind.TheVariants as kinds
use Rattle.heap_terms.specs.Heap.{object_at}
use Rattle.heap_terms.specs.Layout.{base_address, fixnum_word, lowtag_of, header_of}
use Rattle.heap_terms.specs.Objects.{Object, Contents, ConsOf, VectorOf, InstanceOf, ClosureOf, WordsOf, WeakTo, TableOf, kind_of, payload_of, words_of_object}
use Rattle.heap_terms.specs.Pairs.{same_value}
use Rattle.heap_terms.specs.Referents.{name_in}
use Rattle.heap_terms.specs.Slots.{Slot, Raw, slot_at}
use Rattle.heap_terms.specs.Stands.{StandsFor, SlotsStand}
use Rattle.heap_terms.specs.Valid.{IsFixnum}
use Rattle.heap_terms.specs.WellFormed.{IsLiving, IsShaped}
use Rattle.heap_terms.specs.Spelling.{word_of, word_of_object}
use Rattle.heap_laws.proofs.Allocating.{size_least}
use Rattle.heap_laws.proofs.AtPlaces.{IfSome-at, IsSome-value}
use Rattle.heap_laws.proofs.Reading.{header_leads, same_value-true, same_value-self}
use Rattle.lisp_words.specs.Tagged.{IsTagged, IsHeader, tag_bits}
use Rattle.lisp_words.specs.declared.pointers.Lowtag.{Lowtag}
use Rattle.lisp_words.specs.declared.pointers.Lowtag.TheVariants as lowtags
use Rattle.lisp_heap.specs.LivingWords.{IsReferent}
use Rattle.lisp_heap.specs.View.{View, heap_of}
use Rattle.lisp_heap.specs.WorldSound.{IsSound, view_of}
use Rattle.lisp_heap.specs.declared.world.World.TheInside.{Inside}
use Rattle.lisp_heap.proofs.SlotChanges.{within_capacity, payload_small}
use Rattle.lisp_heap.proofs.Soundness.{heap, well_formed}

-- an object of a well-formed heap
pub record ObjectAt (s : Inside) (name : ℕ) : Type 0 where
  pub object : Object
  pub there : object_at (heap s).objects name ≡ Some object
  pub shape : IsShaped object.contents
  pub word_is : word_of (heap s).objects (Ref name) ≡ base_address + 8 * object.place + lowtag_of (kind_of object.contents)
  pub even : object.place % 2 ≡ 0
  pub inside : object.place + words_of_object object ≤ length s.space
  pub least : object.place + 2 ≤ length s.space
  pub below : object.place < 524288

abbrev pub object_known : (s : Inside) → IsSound s → (name : ℕ) (o : Object) → object_at (heap s).objects name ≡ Some o → ObjectAt s name
object_known s h name o there =
    let is = (well_formed s h).sound.objects name o there in
    let two : 2 ≤ words_of_object o = size_least (kind_of o.contents) (payload_of o.contents) in
    let inside : o.place + words_of_object o ≤ length s.space = omega (arith, is.placed.inside, h.holds.words.long) in
    record {
      object = o;
      there = there;
      shape = is.shape;
      word_is = ap word_of_object there;
      even = is.placed.even;
      inside = inside;
      least = omega (arith, inside, two);
      below = omega (arith, inside, two, h.holds.words.long, (well_formed s h).pages_length, h.valid.pages_most);
    }

pub object_of : (s : Inside) → IsSound s → (name : ℕ) → IsLiving (heap s).objects (Ref name) → ObjectAt s name
object_of s h name living =
    let found = IsSome-value (object_at (heap s).objects name) living in
    object_known s h name (found.0) found.1

-- the lowtag of a kind
abbrev tag_of : Kind → Lowtag
tag_of kinds.Cons = lowtags.List
tag_of kinds.Vector = lowtags.Other
tag_of kinds.Instance = lowtags.Instance
tag_of kinds.Closure = lowtags.Function
tag_of kinds.Words = lowtags.Other
tag_of kinds.Weak = lowtags.Other
tag_of kinds.Table = lowtags.Other

tag_bits_of : (kind : Kind) → tag_bits (tag_of kind) ≡ lowtag_of kind
tag_bits_of kinds.Cons = refl
tag_bits_of kinds.Vector = refl
tag_bits_of kinds.Instance = refl
tag_bits_of kinds.Closure = refl
tag_bits_of kinds.Words = refl
tag_bits_of kinds.Weak = refl
tag_bits_of kinds.Table = refl

-- the word of an object is tagged, and so
object_tagged : (s : Inside) (name : ℕ) (k : ObjectAt s name) (word : ℕ) → word ≡ word_of (heap s).objects (Ref name) →
    IsTagged word k.object.place (tag_of (kind_of k.object.contents))
object_tagged s name k word is = record { even = k.even; below = k.below; word_is = omega (arith, is, k.word_is, tag_bits_of (kind_of k.object.contents)) }

bits_small : (x : Lowtag) → tag_bits x < 16
bits_small lowtags.Instance = omega arith
bits_small lowtags.List = omega arith
bits_small lowtags.Function = omega arith
bits_small lowtags.Other = omega arith

-- a word is tagged in one way only
tagged_once : (word i j : ℕ) (x y : Lowtag) → IsTagged word i x → IsTagged word j y → (i ≡ j) × (tag_bits x ≡ tag_bits y)
tagged_once word i j x y h g = (same_index, omega (arith, same_index, h.word_is, g.word_is))
  where
    same_index : i ≡ j
    same_index = grind (arith, h.even, g.even, h.word_is, g.word_is, bits_small x, bits_small y)

-- a lowtag is odd, and those of conses and of other objects differ
tag_odd : (x : Lowtag) → tag_bits x % 2 ≡ 1
tag_odd lowtags.Instance = refl
tag_odd lowtags.List = refl
tag_odd lowtags.Function = refl
tag_odd lowtags.Other = refl

pub seven_is_cons : (kind : Kind) → 7 ≡ lowtag_of kind → kind ≡ kinds.Cons
seven_is_cons kinds.Cons e = refl
seven_is_cons kinds.Vector e = absurd (omega (arith, e))
seven_is_cons kinds.Instance e = absurd (omega (arith, e))
seven_is_cons kinds.Closure e = absurd (omega (arith, e))
seven_is_cons kinds.Words e = absurd (omega (arith, e))
seven_is_cons kinds.Weak e = absurd (omega (arith, e))
seven_is_cons kinds.Table e = absurd (omega (arith, e))

-- a lowtag of an object with a header
pub no_list : (x : Lowtag) → (x ≡ lowtags.Instance) ⊎ (x ≡ lowtags.Function) ⊎ (x ≡ lowtags.Other) → x ≢ lowtags.List
no_list x h e = elim h [ inl a ↦ cc | inr b ↦ elim b [ inl f ↦ cc | inr o ↦ cc ] ]

pub no_cons : (x : Lowtag) (kind : Kind) → x ≢ lowtags.List → tag_bits x ≡ lowtag_of kind → kind ≢ kinds.Cons
no_cons lowtags.Instance kind n e is = absurd (omega (arith, e, ap lowtag_of is))
no_cons lowtags.List kind n e is = n refl
no_cons lowtags.Function kind n e is = absurd (omega (arith, e, ap lowtag_of is))
no_cons lowtags.Other kind n e is = absurd (omega (arith, e, ap lowtag_of is))

fixnum_even : (n : ℤ) → IsFixnum n → fixnum_word n % 2 ≡ 0
fixnum_even (pos n) h = omega (arith, h)
fixnum_even (negsuc n) h = omega (arith, h)

-- a tagged word that is a living value's is a reference to an object there
pub record Found (s : Inside) (v : Value) (index : ℕ) (tag : Lowtag) : Type 0 where
  pub name : ℕ
  pub value_is : v ≡ Ref name
  pub at_object : ObjectAt s name
  pub place : index ≡ at_object.object.place
  pub tag_is : tag_bits tag ≡ lowtag_of (kind_of at_object.object.contents)

pub found_at : (s : Inside) → IsSound s → (v : Value) (word index : ℕ) (tag : Lowtag) → IsLiving (heap s).objects v →
    word ≡ word_of (heap s).objects v → IsTagged word index tag → Found s v index tag
found_at s h (Fix n) word index tag living is tagged = absurd (omega (arith, fixnum_even n living, is, tagged.word_is, tag_odd tag))
found_at s h Nil word index tag living is tagged = absurd (omega (arith, is, tagged.word_is))
found_at s h Unbound word index tag living is tagged = absurd living
found_at s h (Ref name) word index tag living is tagged =
    let k = object_of s h name living in
    let once = tagged_once word index k.object.place tag (tag_of (kind_of k.object.contents)) tagged (object_tagged s name k word is) in
    record { name = name; value_is = refl; at_object = k; place = once.0; tag_is = once.1 ∙ tag_bits_of (kind_of k.object.contents) }

-- a word that is not tagged and not even is that of NIL, among those of living values
pub nil_at : (s : Inside) → IsSound s → (v : Value) (word : ℕ) → IsLiving (heap s).objects v → word ≡ word_of (heap s).objects v →
    word % 2 ≡ 1 → ((index : ℕ) (tag : Lowtag) → IsTagged word index tag → ⊥) → Nil ≡ v
nil_at s h (Fix n) word living is odd none = absurd (omega (arith, fixnum_even n living, is, odd))
nil_at s h Nil word living is odd none = refl
nil_at s h Unbound word living is odd none = absurd living
nil_at s h (Ref name) word living is odd none =
    let k = object_of s h name living in absurd (none k.object.place (tag_of (kind_of k.object.contents)) (object_tagged s name k word is))

-- and a word that is not tagged refers to nothing
pub refers_nowhere : (s : Inside) → IsSound s → (v : Value) (word : ℕ) → IsLiving (heap s).objects v → word ≡ word_of (heap s).objects v →
    ((index : ℕ) (tag : Lowtag) → IsTagged word index tag → ⊥) → name_in v ≡ None
refers_nowhere s h (Fix n) word living is none = refl
refers_nowhere s h Nil word living is none = refl
refers_nowhere s h Unbound word living is none = refl
refers_nowhere s h (Ref name) word living is none =
    let k = object_of s h name living in absurd (none k.object.place (tag_of (kind_of k.object.contents)) (object_tagged s name k word is))

-- the label at an object is its name
pub label_is : (s : Inside) → IsSound s → (name : ℕ) (k : ObjectAt s name) → get_or s.labels (k.object.place / 2) 0 ≡ name
label_is s h name k =
    IfSome-at (λ (o : Object). slice_index s.labels (o.place / 2) ≡ name) (object_at (heap s).objects name) k.object k.there (h.holds.labels.named name)

pub label_there : (s : Inside) → IsSound s → (name : ℕ) (k : ObjectAt s name) → k.object.place / 2 < length s.labels
label_there s h name k = omega (arith, h.holds.labels.long, h.holds.words.long, k.least)

-- the word at a slot of an object stands for it
pub slot_word : (s : Inside) → IsSound s → (name : ℕ) (k : ObjectAt s name) (i : ℕ) (t : Slot) → slot_at k.object.contents i ≡ Some t →
    StandsFor (heap s).objects t (slice_index s.space (k.object.place + i))
slot_word s h name k i t e =
    let spelled : SlotsStand (heap s).objects s.space k.object.place k.object.contents =
    IfSome-at (λ (o : Object). SlotsStand (heap s).objects s.space o.place o.contents) (object_at (heap s).objects name) k.object k.there (h.holds.words.spelled name) in
    IfSome-at (λ (z : Slot). StandsFor (heap s).objects z (slice_index s.space (k.object.place + i))) (slot_at k.object.contents i) t e (spelled i)

-- the first word of an object that is no cons is its header
pub header_there : (s : Inside) → IsSound s → (name : ℕ) (k : ObjectAt s name) → kind_of k.object.contents ≢ kinds.Cons →
    IsHeader (slice_index s.space k.object.place) (kind_of k.object.contents) (payload_of k.object.contents)
header_there s h name k n =
    let word : slice_index s.space (k.object.place + 0) ≡ header_of (kind_of k.object.contents) (payload_of k.object.contents) =
    slot_word s h name k 0 (Raw (header_of (kind_of k.object.contents) (payload_of k.object.contents))) (header_leads k.object.contents (within_capacity k.object.contents k.shape) n) in
    record {
      headed = n;
      below = omega (arith, payload_small k.object.contents k.shape);
      word_is = ap (slice_index s.space) (omega arith) ∙ word;
    }

-- a cons has two words of payload
pub cons_payload : (k : Contents) → kind_of k ≡ kinds.Cons → 2 ≡ payload_of k
cons_payload (ConsOf a b) e = refl
cons_payload (VectorOf vs) e = cc
cons_payload (InstanceOf vs) e = cc
cons_payload (ClosureOf vs) e = cc
cons_payload (WordsOf ws) e = cc
cons_payload (WeakTo v) e = cc
cons_payload (TableOf w b pairs) e = cc

-- what was found, as the clause says it
pub as_referent : (s : Inside) (v : Value) (index : ℕ) (tag : Lowtag) (kind : Kind) (n : ℕ) → (f : Found s v index tag) →
    kind ≡ kind_of f.at_object.object.contents → n ≡ payload_of f.at_object.object.contents →
    IsReferent (heap s).objects v (Some (record { index = index; kind = kind; n = n }))
as_referent s v index tag kind n f kind_is n_is =
    (f.at_object.object, record { name = f.name; value_is = f.value_is; there = f.at_object.there }, f.place, kind_is, n_is)

-- words of living values are one just where the values are
pub same_words : (s : Inside) → IsSound s → (v w : Value) → IsLiving (heap s).objects v → IsLiving (heap s).objects w →
    word_of (heap s).objects v ≡ word_of (heap s).objects w → v ≡ w
same_words s h (Fix n) (Fix m) hv hw e = ap Fix (same_fixnums n m hv hw e)
  where
    same_fixnums : (n m : ℤ) → IsFixnum n → IsFixnum m → fixnum_word n ≡ fixnum_word m → n ≡ m
    same_fixnums (pos n) (pos m) hn hm e = ap pos (omega (arith, e))
    same_fixnums (pos n) (negsuc m) hn hm e = absurd (omega (arith, e, hn, hm))
    same_fixnums (negsuc n) (pos m) hn hm e = absurd (omega (arith, e, hn, hm))
    same_fixnums (negsuc n) (negsuc m) hn hm e = ap negsuc (omega (arith, e, hn, hm))
same_words s h (Fix n) Nil hv hw e = absurd (omega (arith, fixnum_even n hv, e))
same_words s h (Fix n) Unbound hv hw e = absurd hw
same_words s h (Fix n) (Ref y) hv hw e =
    let k = object_of s h y hw in
    let tag = tag_of (kind_of k.object.contents) in
    absurd (omega (arith, fixnum_even n hv, e, k.word_is, tag_odd tag, tag_bits_of (kind_of k.object.contents)))
same_words s h Nil (Fix m) hv hw e = absurd (omega (arith, fixnum_even m hw, e))
same_words s h Nil Nil hv hw e = refl
same_words s h Nil Unbound hv hw e = absurd hw
same_words s h Nil (Ref y) hv hw e = let k = object_of s h y hw in absurd (omega (arith, e, k.word_is))
same_words s h Unbound w hv hw e = absurd hv
same_words s h (Ref x) (Fix m) hv hw e =
    let k = object_of s h x hv in
    let tag = tag_of (kind_of k.object.contents) in
    absurd (omega (arith, fixnum_even m hw, e, k.word_is, tag_odd tag, tag_bits_of (kind_of k.object.contents)))
same_words s h (Ref x) Nil hv hw e = let k = object_of s h x hv in absurd (omega (arith, e, k.word_is))
same_words s h (Ref x) Unbound hv hw e = absurd hw
same_words s h (Ref x) (Ref y) hv hw e =
    let k = object_of s h x hv in
    let l = object_of s h y hw in
    let once = tagged_once (word_of (heap s).objects (Ref x)) k.object.place l.object.place (tag_of (kind_of k.object.contents)) (tag_of (kind_of l.object.contents))
    (object_tagged s x k (word_of (heap s).objects (Ref x)) refl) (object_tagged s y l (word_of (heap s).objects (Ref x)) e) in
    elim (cases_eq x y) [
      | inl same ↦ ap Ref same
      | inr other ↦ absurd (elim ((well_formed s h).sound.apart x y k.object l.object other k.there l.there) [
        | inl before ↦ omega (arith, before, once.0, size_least (kind_of k.object.contents) (payload_of k.object.contents))
        | inr behind ↦ omega (arith, behind, once.0, size_least (kind_of l.object.contents) (payload_of l.object.contents))
      ])
    ]

-- so two values are the same just where their words are
pub told_in : (s : Inside) → IsSound s → (v w : Value) → IsLiving (heap s).objects v → IsLiving (heap s).objects w →
    (word_of (heap s).objects v ≡ word_of (heap s).objects w → same_value v w ≡ true) × (word_of (heap s).objects v ≢ word_of (heap s).objects w → same_value v w ≡ false)
told_in s h v w hv hw = (
  (λ e. subst (λ (z : Value). same_value v z ≡ true) (same_words s h v w hv hw e) (same_value-self v)),
  (λ n. elim (cases_Bool (same_value v w)) [
    | inl same ↦ absurd (n (ap (word_of (heap s).objects) (same_value-true v w same)))
    | inr other ↦ other
  ]),
)

pub told_by_words : (s : Inside) (w : View) → IsSound s → view_of s ≡ w → (x y : Value) → IsLiving (heap_of w).objects x → IsLiving (heap_of w).objects y →
    (word_of (heap_of w).objects x ≡ word_of (heap_of w).objects y → same_value x y ≡ true)
    × (word_of (heap_of w).objects x ≢ word_of (heap_of w).objects y → same_value x y ≡ false)
told_by_words s w h e x y =
    subst (λ (z : View). IsLiving (heap_of z).objects x → IsLiving (heap_of z).objects y →
    (word_of (heap_of z).objects x ≡ word_of (heap_of z).objects y → same_value x y ≡ true)
    × (word_of (heap_of z).objects x ≢ word_of (heap_of z).objects y → same_value x y ≡ false)) e (told_in s h x y)
