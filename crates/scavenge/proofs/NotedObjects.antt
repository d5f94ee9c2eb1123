-- One object is scanned: where its header is that of a weak pointer or a table it has no fields, and is noted.
use Rattle.std.proofs.Common.{◌≡◌, ◌≢◌, ℕ, ◌%◌, List, Some, Bool, true, false, nat_eq, refl, sym, ◌∙◌, ap, subst, arith}
use Rattle.std.proofs.lemmas.Bool.{false≢true}
use Rattle.std.specs.List.{list_any}
use Rattle.std.specs.Prelude.{slice_index}
use Rattle.heap_terms.specs.declared.kinds.Kind.{Kind}
use Rattle.heap_terms.specs.declared.kinds.Kind.TheVariants as kinds
use Rattle.heap_terms.specs.Heap.{NamedHeap, object_at}
use Rattle.heap_terms.specs.Objects.{Object, kind_of, payload_of}
use Rattle.lisp_words.specs.Tagged.{IsHeader}
use Rattle.copy_space.specs.Moved.{new_of}
use Rattle.copy_space.specs.State.{CopyState}
use Rattle.copy_space.specs.WeakNames.{HasWeakAt, is_weak}
use Rattle.scavenge.specs.Fields.{CanScanHeaded, CanScanObject, IsObjectScanned, fields_behind, is_weak_kind}
use Rattle.scavenge.proofs.FirstWord.{IsScannedAt, cons-by_word, header-word, headed-by_word}
use Rattle.scavenge.proofs.NotedStarts.{kind-by_weak, kind-weak}
use Rattle.scavenge.proofs.Shapes.{field_is_behind}

-- a weak pointer or a table has no fields
weak_no_fields : (kind : Kind) (n : ℕ) → is_weak_kind kind ≡ true → fields_behind kind n ≡ 0
weak_no_fields kinds.Cons n e = refl
weak_no_fields kinds.Vector n e = absurd (false≢true e)
weak_no_fields kinds.Instance n e = absurd (false≢true e)
weak_no_fields kinds.Closure n e = absurd (false≢true e)
weak_no_fields kinds.Words n e = refl
weak_no_fields kinds.Weak n e = refl
weak_no_fields kinds.Table n e = refl

module _ (a : NamedHeap) (s : CopyState) (index word : ℕ) (can : CanScanHeaded a s index) (is : word ≡ slice_index s.words index) (weak : Bool)
    (weak_is : (kind : Kind) (n : ℕ) → IsHeader word kind n → weak ≡ is_weak_kind kind) where
  headed_there : (name : ℕ) (o : Object) → object_at a.objects name ≡ Some o → new_of s.moves o.place ≡ index → kind_of o.contents ≢ kinds.Cons
  headed_there name o there here = headed-by_word a s can.midway name o there (ap (λ (i : ℕ). slice_index s.words i % 4) here ∙ can.header)

  weak_of : (name : ℕ) (o : Object) → object_at a.objects name ≡ Some o → new_of s.moves o.place ≡ index → weak ≡ is_weak o.contents
  weak_of name o there here =
      let header = header-word a s can.midway name o there (headed_there name o there here) in
      let word_at : slice_index s.words (new_of s.moves o.place) ≡ word = ap (λ (i : ℕ). slice_index s.words i) here ∙ sym is in
      weak_is (kind_of o.contents) (payload_of o.contents) (subst (λ (w : ℕ). IsHeader w (kind_of o.contents) (payload_of o.contents)) word_at header) ∙ kind-weak o.contents

  pub weak-here : weak ≡ true → HasWeakAt a s index
  weak-here e =
      let at = can.at in (
        at.name,
        record { o = at.o; there = at.there; settled = at.settled; here = at.here; weak = kind-by_weak at.o.contents (sym (weak_of at.name at.o at.there at.here) ∙ e) },
      )

  pub weak-done : weak ≡ true → (listed : List ℕ) → list_any (nat_eq index) listed ≡ true → IsObjectScanned a s s listed index
  weak-done e listed has = λ name o there settled here. record {
    scanned = λ i v f.
        (let at = field_is_behind o.contents (headed_there name o there here) i v f in
        let none = weak_no_fields (kind_of o.contents) (payload_of o.contents) (kind-weak o.contents ∙ sym (weak_of name o there here) ∙ e) in
        let from = at.from in
        let below = at.below in
        absurd (omega arith));
    noted = λ _. subst (λ (i : ℕ). list_any (nat_eq i) listed ≡ true) (sym here) has;
  }

  pub strong-done : weak ≡ false → (t : CopyState) (listed : List ℕ) → IsScannedAt a s t index → IsObjectScanned a s t listed index
  strong-done e t listed all = λ name o there settled here. record {
    scanned = all name o there settled here;
    noted = λ w. absurd (false≢true (sym e ∙ weak_of name o there here ∙ w));
  }

pub cons-done : (a : NamedHeap) (s t : CopyState) (listed : List ℕ) (index : ℕ) → CanScanObject a s index → slice_index s.words index % 4 ≢ 1 → IsScannedAt a s t index →
    IsObjectScanned a s t listed index
cons-done a s t listed index can other all = λ name o there settled here. (
    let cons = cons-by_word a s can.midway name o there (λ one. other (ap (λ (i : ℕ). slice_index s.words i % 4) (sym here) ∙ one)) in
    record {
      scanned = all name o there settled here;
      noted = λ w. absurd (false≢true (sym (ap is_weak_kind cons) ∙ kind-weak o.contents ∙ w));
    })
