-- Where the raw words of a referent lie.
use Rattle.std.proofs.Common.{◌≡◌, ◌≢◌, ◌+◌, arith, subst, sym, refl, Option, ◌⊎◌, inl, inr}
use Rattle.heap_terms.specs.declared.kinds.Kind.{Kind}
use Rattle.heap_terms.specs.declared.kinds.Kind.TheVariants as kinds
use Rattle.heap_terms.specs.declared.cells.Value.{Value}
use Rattle.heap_terms.specs.WellFormed.{IsLiving}
use Rattle.heap_terms.specs.Spelling.{word_of}
use Rattle.lisp_heap.specs.LivingWords.{AreRaws}
use Rattle.lisp_heap.specs.View.{heap_of}
use Rattle.lisp_heap.specs.declared.referents.Span.{Span}
use Rattle.lisp_heap.proofs.Spans.{referent_raws, referent_no_raws, nowhere_raws, index_small}
use Rattle.lisp_heap.proofs.world.World.raws.Goals as goal

-- six kinds without raw words
six : (k : Kind) → (k ≡ kinds.Cons) ⊎ (k ≡ kinds.Vector) ⊎ (k ≡ kinds.Instance) ⊎ (k ≡ kinds.Closure) ⊎ (k ≡ kinds.Weak) ⊎ (k ≡ kinds.Table) → k ≢ kinds.Words
six k h words = elim h [
  | inl e ↦ cc
  | inr h ↦ elim h [
    | inl e ↦ cc
    | inr h ↦ elim h [
      | inl e ↦ cc
      | inr h ↦ elim h [
        | inl e ↦ cc
        | inr h ↦ elim h [ inl e ↦ cc | inr e ↦ cc ]
      ]
    ]
  ]
]

pub overflow_add-result : goal.overflow_add-result
overflow_add-result c =
    omega (arith, index_small c.self.inside c.args.self.now c.self.invariant c.self.view_is c.requires.value c.in_ok-index.field-0 (c.in_ok-index.ensures c.requires.value c.requires.living c.requires.word_is))

pub returns-in_err-index : goal.returns-in_err-index
returns-in_err-index c =
    subst (λ (o : Option Span). (v : Value) → IsLiving (heap_of c.args.self.now).objects v → c.args.word ≡ word_of (heap_of c.args.self.now).objects v →
    AreRaws (heap_of c.args.self.now).objects v o) (sym c.from_residual.ensures)
    (λ v living is. nowhere_raws (heap_of c.args.self.now).objects v (c.in_err-index.ensures v living is))

pub returns-in-Words : goal.returns-in-Words
returns-in-Words c = λ v living is. (
    referent_raws (heap_of c.args.self.now).objects v c.in_ok-index.field-0 (record { first = c.in_ok-index.field-0.index + 1; count = c.in_ok-index.field-0.n })
    (c.in_ok-index.ensures v living is) c.in-Words.is refl refl)

pub returns-in-Cons : goal.returns-in-Cons
returns-in-Cons c = λ v living is. (
    referent_no_raws (heap_of c.args.self.now).objects v c.in_ok-index.field-0 (c.in_ok-index.ensures v living is) (six c.in_ok-index.field-0.kind c.in-Cons.is))
