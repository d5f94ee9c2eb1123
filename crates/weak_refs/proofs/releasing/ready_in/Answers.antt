-- The header tells a table.
use Rattle.std.proofs.Common.{◌≡◌, sym, ◌∙◌, ap, arith}
use Rattle.heap_terms.specs.declared.kinds.Kind.TheVariants as kinds
use Rattle.heap_terms.specs.Objects.{kind_of}
use Rattle.copy_space.specs.State.{state}
use Rattle.weak_refs.proofs.Midways.{weak-start}
use Rattle.weak_refs.proofs.Pointers.{start-inside, kind-told}
use Rattle.weak_refs.proofs.TablesNow.{table-now}
use Rattle.weak_refs.proofs.releasing.ready_in.Goals as goal

pub kind_at-requires : goal.kind_at-requires
kind_at-requires g c =
    let inside = start-inside g.a (state c.args.copier.now) c.requires.midway.places c.requires.name c.args.start c.requires.at in
    rw c.space.ensures (omega arith)

pub ready_one-requires : goal.ready_one-requires
ready_one-requires g c =
    let s = state c.args.copier.now in
    let m = c.requires.midway in
    let q = weak-start g.a s kinds.Table c.requires.name c.args.start m c.requires.at in
    let kind : kind_of q.at.o.contents ≡ kinds.Table =
    sym (kind-told g.a s kinds.Table c.args.start m.places q c.space.result.now (ap (λ w. w) c.space.ensures) c.kind_at.result c.kind_at.ensures) ∙ c.in-Table.is in
    record { midway = m; table = table-now g.a s c.args.start m.places q kind }
