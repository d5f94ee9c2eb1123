-- The type of the page or the header tells the size: a word that is a header is read as one.
use Rattle.std.proofs.Common.{◌≡◌, ◌≢◌, ℕ, Option, None, Some, is_some, ◌⊎◌, inl, inr, sym, ◌∙◌, ap, arith}
use Rattle.std.proofs.lemmas.Bool.{false≢true}
use Rattle.heap_terms.specs.declared.kinds.Kind.{Kind}
use Rattle.heap_terms.specs.declared.kinds.Kind.TheVariants as kinds
use Rattle.heap_terms.specs.declared.kinds.PageType.{PageType}
use Rattle.heap_terms.specs.declared.kinds.PageType.TheVariants as types
use Rattle.heap_terms.specs.Layout.{page_type_of}
use Rattle.page_sweep.proofs.wiping.size_at.Goals as goal

none_some : (found : Option (Kind × ℕ)) (kind : Kind) (n : ℕ) → found ≡ None → found ≡ Some (kind, n) → ⊥
none_some found kind n e f = false≢true (ap is_some (sym e ∙ f))

not_cons : (ty : PageType) (kind : Kind) → (ty ≡ types.Boxed) ⊎ (ty ≡ types.Unboxed) → ty ≡ page_type_of kind → kind ≢ kinds.Cons
not_cons ty kind (inl boxed) typed is = (let never : types.Boxed ≡ types.Cons = sym boxed ∙ typed ∙ ap page_type_of is in cc)
not_cons ty kind (inr unboxed) typed is = (let never : types.Unboxed ≡ types.Cons = sym unboxed ∙ typed ∙ ap page_type_of is in cc)

pub returns-in-None : goal.returns-in-None
returns-in-None c = λ size h.
    (let headed = not_cons c.args.ty h.kind c.in-Boxed.is h.typed in
    absurd (none_some c.read_header.result h.kind h.n c.in-None.is
    (c.read_header.ensures.only h.kind h.n (record { headed = headed; below = omega (arith, h.most); word_is = c.read.ensures ∙ h.headed headed }))))
