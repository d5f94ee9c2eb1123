-- To what words refer, and the labels of objects.
use Rattle.std.proofs.Common.{◌≡◌, ℕ, ◌+◌, ◌*◌, ◌/◌, ◌%◌, ◌<◌, ◌≤◌, List, length, refl, sym, ◌∙◌, subst, ap, arith, get_or, Option, Some, None, pos, negsuc, ℤ}
use Rattle.std.proofs.lemmas.Bool.{false≢true}
use Rattle.std.proofs.lemmas.List.{get_or_default}
use Rattle.std.specs.Prelude.{IsSome}
use Rattle.heap_terms.specs.declared.cells.Value.{Value}
use Rattle.heap_terms.specs.declared.cells.Value.TheVariants.{Fix, Nil, Unbound, Ref}
use Rattle.heap_terms.specs.declared.kinds.Kind.{Kind}
use Rattle.heap_terms.specs.declared.kinds.Kind.TheVariants as kinds
use Rattle.heap_terms.specs.Heap.{NamedHeap, object_at}
use Rattle.heap_terms.specs.Layout.{base_address, fixnum_word, lowtag_of}
use Rattle.heap_terms.specs.Living.{IsLiving}
use Rattle.heap_terms.specs.Objects.{Object, kind_of, words_of_object}
use Rattle.heap_terms.specs.Spelling.{word_of, word_of_object}
use Rattle.heap_terms.specs.Valid.{IsFixnum}
use Rattle.lisp_words.specs.Tagged.{IsTagged, tag_bits}
use Rattle.lisp_words.specs.declared.pointers.Lowtag.{Lowtag}
use Rattle.lisp_words.specs.declared.pointers.Lowtag.TheVariants as lowtags
use Rattle.pass_laws.proofs.Sizes.{words_least}
use Rattle.pass_names.specs.Labelled.{AreLabels, HasName}

-- an object of a heap of these labels
pub record ObjectAt (a : NamedHeap) (labels : List ℕ) (name : ℕ) : Type 0 where
  pub object : Object
  pub there : object_at a.objects name ≡ Some object
  pub word_is : word_of a.objects (Ref name) ≡ base_address + 8 * object.place + lowtag_of (kind_of object.contents)
  pub even : object.place % 2 ≡ 0
  pub below : object.place < 524288
  pub half : object.place / 2 < length labels

abbrev pub object_known : (a : NamedHeap) (labels : List ℕ) → AreLabels a labels → (name : ℕ) (o : Object) → object_at a.objects name ≡ Some o → ObjectAt a labels name
object_known a labels h name o there =
    let is = h.sound.objects name o there in
    let two : 2 ≤ words_of_object o = words_least o in
    record {
      object = o;
      there = there;
      word_is = ap word_of_object there;
      even = is.placed.even;
      below = omega (arith, is.placed.inside, two, h.few);
      half = omega (arith, is.placed.inside, two, h.long);
    }

is_there : (q : Option Object) → IsSome q → (o : Object) × (q ≡ Some o)
is_there None h = absurd (false≢true h)
is_there (Some o) h = (o, refl)

object_of : (a : NamedHeap) (labels : List ℕ) → AreLabels a labels → (name : ℕ) → IsLiving a.objects (Ref name) → ObjectAt a labels name
object_of a labels h name living = let found = is_there (object_at a.objects name) living in object_known a labels h name found.0 found.1

-- the lowtag of a kind
abbrev tag_of : Kind → Lowtag
tag_of kinds.Cons = lowtags.List
tag_of kinds.Vector = lowtags.Other
tag_of kinds.Instance = lowtags.Instance
tag_of kinds.Closure = lowtags.Function
tag_of kinds.Words = lowtags.Other
tag_of kinds.Weak = lowtags.Other
tag_of kinds.Table = lowtags.Other

tag_bits_of : (kind : Kind) → tag_bits (tag_of kind) ≡ lowtag_of kind
tag_bits_of kinds.Cons = refl
tag_bits_of kinds.Vector = refl
tag_bits_of kinds.Instance = refl
tag_bits_of kinds.Closure = refl
tag_bits_of kinds.Words = refl
tag_bits_of kinds.Weak = refl
tag_bits_of kinds.Table = refl

-- the word of an object is tagged, and so
object_tagged : (a : NamedHeap) (labels : List ℕ) (name : ℕ) (k : ObjectAt a labels name) (word : ℕ) → word ≡ word_of a.objects (Ref name) →
    IsTagged word k.object.place (tag_of (kind_of k.object.contents))
object_tagged a labels name k word is = record { even = k.even; below = k.below; word_is = omega (arith, is, k.word_is, tag_bits_of (kind_of k.object.contents)) }

bits_small : (x : Lowtag) → tag_bits x < 16
bits_small lowtags.Instance = omega arith
bits_small lowtags.List = omega arith
bits_small lowtags.Function = omega arith
bits_small lowtags.Other = omega arith

-- a word is tagged in one way only
tagged_once : (word i j : ℕ) (x y : Lowtag) → IsTagged word i x → IsTagged word j y → i ≡ j
tagged_once word i j x y h g = grind (arith, h.even, g.even, h.word_is, g.word_is, bits_small x, bits_small y)

-- a lowtag is odd
tag_odd : (x : Lowtag) → tag_bits x % 2 ≡ 1
tag_odd lowtags.Instance = refl
tag_odd lowtags.List = refl
tag_odd lowtags.Function = refl
tag_odd lowtags.Other = refl

fixnum_even : (n : ℤ) → IsFixnum n → fixnum_word n % 2 ≡ 0
fixnum_even (pos n) h = omega (arith, h)
fixnum_even (negsuc n) h = omega (arith, h)

-- a tagged word that is a living value's is a reference to an object there
pub record Found (a : NamedHeap) (labels : List ℕ) (v : Value) (index : ℕ) : Type 0 where
  pub name : ℕ
  pub value_is : v ≡ Ref name
  pub at_object : ObjectAt a labels name
  pub place : index ≡ at_object.object.place

pub found_at : (a : NamedHeap) (labels : List ℕ) → AreLabels a labels → (v : Value) (word index : ℕ) (tag : Lowtag) → IsLiving a.objects v →
    word ≡ word_of a.objects v → IsTagged word index tag → Found a labels v index
found_at a labels h (Fix n) word index tag living is tagged = absurd (omega (arith, fixnum_even n living, is, tagged.word_is, tag_odd tag))
found_at a labels h Nil word index tag living is tagged = absurd (omega (arith, is, tagged.word_is))
found_at a labels h Unbound word index tag living is tagged = absurd living
found_at a labels h (Ref name) word index tag living is tagged =
    let k = object_of a labels h name living in
    let once = tagged_once word index k.object.place tag (tag_of (kind_of k.object.contents)) tagged (object_tagged a labels name k word is) in
    record { name = name; value_is = refl; at_object = k; place = once }

-- a word that is not tagged and not even is that of NIL, among those of living values
pub nil_at : (a : NamedHeap) (labels : List ℕ) → AreLabels a labels → (v : Value) (word : ℕ) → IsLiving a.objects v → word ≡ word_of a.objects v →
    word % 2 ≡ 1 → ((index : ℕ) (tag : Lowtag) → IsTagged word index tag → ⊥) → Nil ≡ v
nil_at a labels h (Fix n) word living is odd none = absurd (omega (arith, fixnum_even n living, is, odd))
nil_at a labels h Nil word living is odd none = refl
nil_at a labels h Unbound word living is odd none = absurd living
nil_at a labels h (Ref name) word living is odd none =
    let k = object_of a labels h name living in absurd (none k.object.place (tag_of (kind_of k.object.contents)) (object_tagged a labels name k word is))

-- what is read at an object is its name
pub label_read : (a : NamedHeap) (labels : List ℕ) → AreLabels a labels → (name index d : ℕ) (o : Object) → object_at a.objects name ≡ Some o → index ≡ o.place →
    get_or labels (index / 2) d ≡ name
label_read a labels h name index d o there here =
    let k = object_known a labels h name o there in
    ap (λ (i : ℕ). get_or labels (i / 2) d) here ∙ get_or_default labels (o.place / 2) d 0 k.half ∙ h.named name o there

pub has_label : (labels : List ℕ) (index : ℕ) → HasName labels index → index / 2 < length labels
has_label labels index h =
    let k = object_known h.heap labels h.labels_are h.name h.o h.there in
    subst (λ (i : ℕ). i / 2 < length labels) (sym h.here) k.half
