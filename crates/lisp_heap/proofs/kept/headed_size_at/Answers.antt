-- The object's first word tells its kind and its payload.
use Rattle.std.proofs.Common.{◌≡◌, ℕ, ◌≤◌, sym, ◌∙◌, ap, subst, arith}
use Rattle.heap_terms.specs.declared.kinds.Kind.{Kind}
use Rattle.heap_terms.specs.declared.limits.TheConstants.{MOST_ELEMENTS}
use Rattle.heap_terms.specs.LaidOut.{BeginsWith}
use Rattle.heap_terms.specs.Layout.{size_of}
use Rattle.lisp_heap.specs.Kept.{IsSizeAt}
use Rattle.object_walk.proofs.Walked.{first_read, payload_most, size_most}
use Rattle.lisp_heap.proofs.kept.headed_size_at.Goals as goal

told : (c : goal.After-unwrap_or-kind) (size : ℕ) (at : IsSizeAt c.args.space.now c.args.index size) → c.unwrap_or-kind.result ≡ (at.kind, at.n)
told c size at =
    c.unwrap_or-kind.ensures ∙ first_read c.read.result c.read_header.result c.read_header.ensures.header c.read_header.ensures.only at.kind at.n
    (subst (λ (word : ℕ). BeginsWith at.kind at.n word) (sym c.read.ensures) at.begins)

told_then : (c : goal.After-size_of) (size : ℕ) (at : IsSizeAt c.args.space.now c.args.index size) → c.unwrap_or-kind.result ≡ (at.kind, at.n)
told_then c size at =
    c.unwrap_or-kind.ensures ∙ first_read c.read.result c.read_header.result c.read_header.ensures.header c.read_header.ensures.only at.kind at.n
    (subst (λ (word : ℕ). BeginsWith at.kind at.n word) (sym c.read.ensures) at.begins)

pub read-requires : goal.read-requires
read-requires c = c.requires.1.inside

pub size_of-requires : goal.size_of-requires
size_of-requires c =
    let at = c.requires.1 in
    subst (λ (r : Kind × ℕ). r.1 ≤ MOST_ELEMENTS) (sym (told c c.requires.0 at)) (payload_most at.kind at.n _ at.begins)

pub returns-clause-size : goal.returns-clause-size
returns-clause-size c size at = c.size_of.ensures ∙ ap (λ (r : Kind × ℕ). size_of r.0 r.1) (told_then c size at) ∙ sym at.size_is

pub returns-clause-most : goal.returns-clause-most
returns-clause-most c =
    let at = c.requires.1 in
    let most = size_most at.kind at.n (payload_most at.kind at.n _ at.begins) in
    omega (arith, at.size_is, c.size_of.ensures, ap (λ (r : Kind × ℕ). size_of r.0 r.1) (told_then c c.requires.0 at), most)
