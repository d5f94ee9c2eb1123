-- Which values have words that are references: references alone, and the word tells the place and the lowtag.
use Rattle.std.proofs.Common.{◌≡◌, ℕ, ◌+◌, ◌*◌, ◌%◌, ◌<◌, List, Option, Some, None, IsSome, pos, negsuc, refl, subst, arith}
use Rattle.std.proofs.lemmas.Bool.{false≢true}
use Rattle.heap_terms.specs.declared.cells.Value.{Value}
use Rattle.heap_terms.specs.declared.cells.Value.TheVariants.{Fix, Nil, Unbound, Ref}
use Rattle.heap_terms.specs.declared.kinds.Kind.{Kind}
use Rattle.heap_terms.specs.declared.kinds.Kind.TheVariants as kinds
use Rattle.heap_terms.specs.Heap.{object_at}
use Rattle.heap_terms.specs.Layout.{base_address, lowtag_of}
use Rattle.heap_terms.specs.Living.{IsLivingOrUnbound}
use Rattle.heap_terms.specs.Objects.{Object, kind_of}
use Rattle.heap_terms.specs.Spelling.{word_of}
use Rattle.lisp_words.specs.declared.pointers.Lowtag.{Lowtag}
use Rattle.lisp_words.specs.declared.pointers.Lowtag.TheVariants as lowtags
use Rattle.lisp_words.specs.Tagged.{IsTagged, tag_bits}

-- a value refers to an object that is at an index, of a kind with that lowtag
pub record RefersTo (objects : List (Option Object)) (v : Value) (index : ℕ) (tag : Lowtag) : Type 0 where
  pub name : ℕ
  pub o : Object
  pub is : v ≡ Ref name
  pub there : object_at objects name ≡ Some o
  pub here : o.place ≡ index
  pub tagged : tag_bits tag ≡ lowtag_of (kind_of o.contents)

tag_odd : (tag : Lowtag) → (tag_bits tag % 4 ≡ 3) × (tag_bits tag < 16)
tag_odd lowtags.Instance = (refl, omega arith)
tag_odd lowtags.List = (refl, omega arith)
tag_odd lowtags.Function = (refl, omega arith)
tag_odd lowtags.Other = (refl, omega arith)

lowtag_bits : (kind : Kind) → lowtag_of kind < 16
lowtag_bits kinds.Cons = omega arith
lowtag_bits kinds.Vector = omega arith
lowtag_bits kinds.Instance = omega arith
lowtag_bits kinds.Closure = omega arith
lowtag_bits kinds.Words = omega arith
lowtag_bits kinds.Weak = omega arith
lowtag_bits kinds.Table = omega arith

pub refers : (objects : List (Option Object)) (v : Value) (word index : ℕ) (tag : Lowtag) → IsLivingOrUnbound objects v →
    ((name : ℕ) (o : Object) → object_at objects name ≡ Some o → o.place % 2 ≡ 0) → word ≡ word_of objects v → IsTagged word index tag →
    RefersTo objects v index tag
refers objects (Fix (pos n)) word index tag living even is h =
    let odd = (tag_odd tag).0 in absurd (omega (arith, h.word_is, is, odd))
refers objects (Fix (negsuc n)) word index tag living even is h =
    let odd = (tag_odd tag).0 in absurd (omega (arith, h.word_is, is, odd))
refers objects Nil word index tag living even is h = absurd (omega (arith, h.word_is, is))
refers objects Unbound word index tag living even is h = absurd (omega (arith, h.word_is, is))
refers objects (Ref name) word index tag living even is h = go (object_at objects name) refl
  where
    go : (q : Option Object) → object_at objects name ≡ q → RefersTo objects (Ref name) index tag
    go None e = absurd (false≢true (subst (λ (x : Option Object). IsSome x) e living))
    go (Some o) e =
        let at : word ≡ base_address + 8 * o.place + lowtag_of (kind_of o.contents) = rw e at is in
        let bits = (tag_odd tag).1 in
        let kind_bits = lowtag_bits (kind_of o.contents) in
        let both = even name o e in
        let tagged = h.word_is in
        let index_even = h.even in
        let same : o.place ≡ index = omega arith in
        record { name = name; o = o; is = refl; there = e; here = same; tagged = omega arith }
