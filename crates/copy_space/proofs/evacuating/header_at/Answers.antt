-- A word that is a header is read as one.
use Rattle.std.proofs.Common.{◌≡◌, ℕ, Option, None, Some, is_some, sym, ◌∙◌, ap, arith}
use Rattle.std.proofs.lemmas.Bool.{false≢true}
use Rattle.heap_terms.specs.declared.kinds.Kind.{Kind}
use Rattle.copy_space.proofs.evacuating.header_at.Goals as goal

none_some : (found : Option (Kind × ℕ)) (kind : Kind) (n : ℕ) → found ≡ None → found ≡ Some (kind, n) → ⊥
none_some found kind n e f = false≢true (ap is_some (sym e ∙ f))

pub returns-in-None : goal.returns-in-None
returns-in-None c = λ kind n h.
    absurd (none_some c.read_header.result kind n c.in-None.is
    (c.read_header.ensures.only kind n (record { headed = h.headed; below = omega (arith, h.most); word_is = c.read.ensures ∙ h.here })))
