-- What begins with no header is a cons, which takes two words.
use Rattle.std.proofs.Common.{◌≡◌, ◌≢◌, ℕ, ◌%◌, refl, arith}
use Rattle.heap_terms.specs.declared.kinds.Kind.{Kind}
use Rattle.heap_terms.specs.declared.kinds.Kind.TheVariants as kinds
use Rattle.heap_terms.specs.LaidOut.{BeginsWith}
use Rattle.heap_terms.specs.Layout.{size_of}
use Rattle.lisp_heap.proofs.kept.size_at.Goals as goal

two : (kind : Kind) (n word : ℕ) → BeginsWith kind n word → word % 4 ≢ 1 → 2 ≡ size_of kind n
two kinds.Cons n word begins other = refl
two kinds.Vector n word begins other = (let is = begins.0 in absurd (omega (arith, is, other)))
two kinds.Instance n word begins other = (let is = begins.0 in absurd (omega (arith, is, other)))
two kinds.Closure n word begins other = (let is = begins.0 in absurd (omega (arith, is, other)))
two kinds.Words n word begins other = (let is = begins.0 in absurd (omega (arith, is, other)))
two kinds.Weak n word begins other = (let is = begins.0 in absurd (omega (arith, is, other)))
two kinds.Table n word begins other = (let is = begins.0 in absurd (omega (arith, is, other)))

pub read-requires : goal.read-requires
read-requires c = c.requires.1.inside
