-- To what the word of a living value refers.
use Rattle.std.proofs.Common.{◌≡◌, ℕ, arith, subst, sym, refl, ap, ◌∙◌, Option, Some, None, slice_index}
use Rattle.heap_terms.specs.declared.cells.Value.{Value}
use Rattle.heap_terms.specs.declared.kinds.Kind.{Kind}
use Rattle.heap_terms.specs.declared.kinds.Kind.TheVariants as kinds
use Rattle.heap_terms.specs.Objects.{kind_of, payload_of}
use Rattle.heap_terms.specs.Referents.{name_in}
use Rattle.heap_terms.specs.WellFormed.{IsLiving}
use Rattle.heap_terms.specs.Spelling.{word_of}
use Rattle.lisp_words.specs.Tagged.{IsHeader, tag_bits}
use Rattle.lisp_heap.specs.LivingWords.{IsReferent, IsWord}
use Rattle.lisp_heap.specs.WorldSound.{view_of}
use Rattle.lisp_heap.specs.View.{View, heap_of}
use Rattle.lisp_heap.specs.declared.referents.Referent.{Referent}
use Rattle.lisp_heap.proofs.Referring.{found_at, refers_nowhere, seven_is_cons, no_cons, header_there, cons_payload, as_referent, no_list}
use Rattle.lisp_heap.proofs.world.World.referent.Goals as goal

-- a header was read as one thing
read_as : (kind other : Kind) (n m : ℕ) → ◌≡◌ {A = Option (Kind × ℕ)} (Some (kind, n)) (Some (other, m)) → (kind ≡ other) × (n ≡ m)
read_as kind other n m e =
    let pair : ◌≡◌ {A = Kind × ℕ} (kind, n) (other, m) = cc in
    (ap (λ (x : Kind × ℕ). x.0) pair, ap (λ (x : Kind × ℕ). x.1) pair)

pub returns-in_err-index : goal.returns-in_err-index
returns-in_err-index c =
    subst (λ (o : Option Referent). (v : Value) → IsLiving (heap_of c.args.self.now).objects v → c.args.word ≡ word_of (heap_of c.args.self.now).objects v →
    IsReferent (heap_of c.args.self.now).objects v o) (sym c.from_residual.ensures)
    (subst (λ (w : View). (v : Value) → IsLiving (heap_of w).objects v → c.args.word ≡ word_of (heap_of w).objects v → name_in v ≡ None) c.self.view_is
    (λ v living is. refers_nowhere c.self.inside c.self.invariant v c.args.word living is (c.in_err-index.ensures.none refl)))

pub read-requires : goal.read-requires
read-requires c =
    let word : IsWord (heap_of (view_of c.self.inside)) c.args.word = subst (λ (w : View). IsWord (heap_of w) c.args.word) (sym c.self.view_is) c.requires in
    let f = found_at c.self.inside c.self.invariant word.value c.args.word c.in_ok-index.index c.in_ok-index.lowtag word.living word.word_is c.in_ok-index.ensures.tagged in
    omega (arith, f.place, f.at_object.least)

pub returns-in_err-kind-in-Instance : goal.returns-in_err-kind-in-Instance
returns-in_err-kind-in-Instance c =
    subst (λ (w : View). (v : Value) → IsLiving (heap_of w).objects v → c.args.word ≡ word_of (heap_of w).objects v → IsReferent (heap_of w).objects v c.from_residual-in_err-kind-in-Instance.result) c.self.view_is
    (λ v living is. (
    let f = found_at c.self.inside c.self.invariant v c.args.word c.in_ok-index.index c.in_ok-index.lowtag living is c.in_ok-index.ensures.tagged in
    let o = f.at_object.object in
    let header = header_there c.self.inside c.self.invariant f.name f.at_object (no_cons c.in_ok-index.lowtag (kind_of o.contents) (no_list c.in_ok-index.lowtag c.in-Instance.is) f.tag_is) in
    let here : IsHeader c.read.result (kind_of o.contents) (payload_of o.contents) =
    subst (λ (n : ℕ). IsHeader n (kind_of o.contents) (payload_of o.contents)) (sym (c.read.ensures ∙ ap (λ (n : ℕ). slice_index c.self.inside.space n) f.place)) header in
    absurd (c.in_err-kind-in-Instance.ensures.none refl (kind_of o.contents) (payload_of o.contents) here)))

pub returns-in-List : goal.returns-in-List
returns-in-List c =
    subst (λ (w : View). (v : Value) → IsLiving (heap_of w).objects v → c.args.word ≡ word_of (heap_of w).objects v →
    IsReferent (heap_of w).objects v (Some (record { index = c.in_ok-index.index; kind = kinds.Cons; n = 2 }))) c.self.view_is
    (λ v living is. (
    let f = found_at c.self.inside c.self.invariant v c.args.word c.in_ok-index.index c.in_ok-index.lowtag living is c.in_ok-index.ensures.tagged in
    let o = f.at_object.object in
    let cons = seven_is_cons (kind_of o.contents) (ap tag_bits (sym c.in-List.is) ∙ f.tag_is) in
    as_referent c.self.inside v c.in_ok-index.index c.in_ok-index.lowtag kinds.Cons 2 f (sym cons) (cons_payload o.contents cons)))

pub returns-in_ok-kind-in-Instance : goal.returns-in_ok-kind-in-Instance
returns-in_ok-kind-in-Instance c =
    subst (λ (w : View). (v : Value) → IsLiving (heap_of w).objects v → c.args.word ≡ word_of (heap_of w).objects v →
    IsReferent (heap_of w).objects v (Some (record { index = c.in_ok-index.index; kind = c.in_ok-kind-in-Instance.kind; n = c.in_ok-kind-in-Instance.n }))) c.self.view_is
    (λ v living is. (
    let f = found_at c.self.inside c.self.invariant v c.args.word c.in_ok-index.index c.in_ok-index.lowtag living is c.in_ok-index.ensures.tagged in
    let o = f.at_object.object in
    let header = header_there c.self.inside c.self.invariant f.name f.at_object (no_cons c.in_ok-index.lowtag (kind_of o.contents) (no_list c.in_ok-index.lowtag c.in-Instance.is) f.tag_is) in
    let here : IsHeader c.read.result (kind_of o.contents) (payload_of o.contents) =
    subst (λ (n : ℕ). IsHeader n (kind_of o.contents) (payload_of o.contents)) (sym (c.read.ensures ∙ ap (λ (n : ℕ). slice_index c.self.inside.space n) f.place)) header in
    let told = read_as c.in_ok-kind-in-Instance.kind (kind_of o.contents) c.in_ok-kind-in-Instance.n (payload_of o.contents)
    (c.in_ok-kind-in-Instance.ensures.only (kind_of o.contents) (payload_of o.contents) here) in
    as_referent c.self.inside v c.in_ok-index.index c.in_ok-index.lowtag c.in_ok-kind-in-Instance.kind c.in_ok-kind-in-Instance.n f told.0 told.1))
