-- The header tells a table.
use Rattle.std.proofs.Common.{◌≡◌, ◌≢◌, sym, ◌∙◌, ap, arith}
use Rattle.heap_terms.specs.declared.kinds.Kind.TheVariants as kinds
use Rattle.heap_terms.specs.Objects.{kind_of}
use Rattle.copy_space.specs.State.{state}
use Rattle.scavenge.proofs.Frames.{same-self}
use Rattle.weak_refs.proofs.Midways.{weak-start}
use Rattle.weak_refs.proofs.Pointers.{start-inside, kind-told}
use Rattle.weak_refs.proofs.Readies.{readies-same}
use Rattle.weak_refs.proofs.TableReady.{pointer-ready}
use Rattle.weak_refs.proofs.TablesNow.{table-now}
use Rattle.weak_refs.proofs.readying.ready_at.Goals as goal

pub kind_at-requires : goal.kind_at-requires
kind_at-requires g c =
    let inside = start-inside g.a (state c.args.copier.now) c.requires.midway.places c.requires.name c.args.start c.requires.at in
    rw c.space.ensures (omega arith)

pub ready_table-requires : goal.ready_table-requires
ready_table-requires g c =
    let s = state c.args.copier.now in
    let m = c.requires.midway in
    let q = weak-start g.a s kinds.Table c.requires.name c.args.start m c.requires.at in
    let kind : kind_of q.at.o.contents ≡ kinds.Table =
    sym (kind-told g.a s kinds.Table c.args.start m.places q c.space.result.now (ap (λ w. w) c.space.ensures) c.kind_at.result c.kind_at.ensures) ∙ c.in-Table.is in
    record { midway = m; table = table-now g.a s c.args.start m.places q kind }

pub returns-in_default : goal.returns-in_default
returns-in_default g c =
    let s = state c.args.copier.now in
    let m = c.requires.midway in
    let q = weak-start g.a s kinds.Table c.requires.name c.args.start m c.requires.at in
    let told = kind-told g.a s kinds.Table c.args.start m.places q c.space.result.now (ap (λ w. w) c.space.ensures) c.kind_at.result c.kind_at.ensures in
    let other : kind_of q.at.o.contents ≢ kinds.Table = λ is. c.in_default.not-Table (told ∙ is) in
    record {
      readies = readies-same g.a s m;
      ready = λ same. pointer-ready g.a s q.name c.args.start m q.at other;
      same = same-self c.args.copier.now;
    }
