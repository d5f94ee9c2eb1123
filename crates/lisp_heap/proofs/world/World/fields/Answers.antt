-- Where the fields of a referent lie.
use Rattle.std.proofs.Common.{◌≡◌, ◌+◌, ℕ, arith, subst, sym, refl, ap, Option, ◌⊎◌, inl, inr}
use Rattle.heap_terms.specs.declared.kinds.Kind.{Kind}
use Rattle.heap_terms.specs.declared.kinds.Kind.TheVariants as kinds
use Rattle.heap_terms.specs.declared.cells.Value.{Value}
use Rattle.heap_terms.specs.WellFormed.{IsLiving}
use Rattle.heap_terms.specs.Spelling.{word_of}
use Rattle.lisp_heap.specs.LivingWords.{AreFields, header_words}
use Rattle.lisp_heap.specs.View.{heap_of}
use Rattle.lisp_heap.specs.declared.referents.Span.{Span}
use Rattle.lisp_heap.proofs.Spans.{HasFieldsKind, referent_fields, referent_no_fields, nowhere_fields, index_small}
use Rattle.lisp_heap.proofs.world.World.fields.Goals as goal

-- three kinds with a header and fields
three : (k : Kind) → (k ≡ kinds.Vector) ⊎ (k ≡ kinds.Instance) ⊎ (k ≡ kinds.Closure) → HasFieldsKind k × (1 ≡ header_words k)
three k h = elim h [
  | inl e ↦ (rw e tt, rw e refl)
  | inr more ↦ elim more [ inl e ↦ (rw e tt, rw e refl) | inr e ↦ (rw e tt, rw e refl) ]
]

-- and three without fields
no_three : (k : Kind) → (k ≡ kinds.Words) ⊎ (k ≡ kinds.Weak) ⊎ (k ≡ kinds.Table) → HasFieldsKind k → ⊥
no_three k h has = elim h [
  | inl e ↦ subst HasFieldsKind e has
  | inr more ↦ elim more [ inl e ↦ subst HasFieldsKind e has | inr e ↦ subst HasFieldsKind e has ]
]

pub overflow_add-result : goal.overflow_add-result
overflow_add-result c =
    omega (arith, index_small c.self.inside c.args.self.now c.self.invariant c.self.view_is c.requires.value c.in_ok-index.field-0 (c.in_ok-index.ensures c.requires.value c.requires.living c.requires.word_is))

pub returns-in_err-index : goal.returns-in_err-index
returns-in_err-index c =
    subst (λ (o : Option Span). (v : Value) → IsLiving (heap_of c.args.self.now).objects v → c.args.word ≡ word_of (heap_of c.args.self.now).objects v →
    AreFields (heap_of c.args.self.now).objects v o) (sym c.from_residual.ensures)
    (λ v living is. nowhere_fields (heap_of c.args.self.now).objects v (c.in_err-index.ensures v living is))

pub returns-in-Cons : goal.returns-in-Cons
returns-in-Cons c = λ v living is. (
    referent_fields (heap_of c.args.self.now).objects v c.in_ok-index.field-0 (record { first = c.in_ok-index.field-0.index; count = c.in_ok-index.field-0.n })
    (c.in_ok-index.ensures v living is) (subst HasFieldsKind (sym c.in-Cons.is) tt) (omega (arith, ap header_words c.in-Cons.is)) refl)

pub returns-in-Vector : goal.returns-in-Vector
returns-in-Vector c = λ v living is. (
    let kind = three c.in_ok-index.field-0.kind c.in-Vector.is in
    referent_fields (heap_of c.args.self.now).objects v c.in_ok-index.field-0 (record { first = c.in_ok-index.field-0.index + 1; count = c.in_ok-index.field-0.n })
    (c.in_ok-index.ensures v living is) kind.0 (ap (λ (n : ℕ). c.in_ok-index.field-0.index + n) kind.1) refl)

pub returns-in-Words : goal.returns-in-Words
returns-in-Words c = λ v living is. (
    referent_no_fields (heap_of c.args.self.now).objects v c.in_ok-index.field-0 (c.in_ok-index.ensures v living is) (no_three c.in_ok-index.field-0.kind c.in-Words.is))
