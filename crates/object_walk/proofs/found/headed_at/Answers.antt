use Rattle.std.proofs.Common.{◌≡◌, ℕ, ◌∙◌, ap}
use Rattle.heap_terms.specs.declared.kinds.Kind.{Kind}
use Rattle.heap_terms.specs.Layout.{size_of}
use Rattle.object_walk.specs.declared.found.Found.{Found}
use Rattle.object_walk.proofs.Walked.{first_read}
use Rattle.object_walk.proofs.found.headed_at.Goals as goal

pub returns : goal.returns
returns c kind n h =
    let told : c.unwrap_or-kind.result ≡ (kind, n) =
    c.unwrap_or-kind.ensures ∙ first_read c.args.word c.read_header.result c.read_header.ensures.header c.read_header.ensures.only kind n h in
    let found = λ (r : Kind × ℕ) (size : ℕ). let f : Found = record { index = c.args.index; kind = r.0; n = r.1; size = size } in f in
    ap (λ (size : ℕ). found c.unwrap_or-kind.result size) c.size_of.ensures ∙ ap (λ (r : Kind × ℕ). found r (size_of r.0 r.1)) told
