-- The header tells a table.
use Rattle.std.proofs.Common.{◌≡◌, ◌≢◌, List, ◌++◌, length, refl, sym, ◌∙◌, ap, subst, arith}
use Rattle.std.proofs.lemmas.List.{append-nil}
use Rattle.heap_terms.specs.declared.kinds.Kind.TheVariants as kinds
use Rattle.heap_terms.specs.Live.{Keeps}
use Rattle.heap_terms.specs.Objects.{Contents, kind_of}
use Rattle.copy_space.specs.declared.notes.CullNote.{CullNote}
use Rattle.copy_space.specs.Settled.{is_settled}
use Rattle.copy_space.specs.State.{state}
use Rattle.weak_refs.proofs.CulledNotes.{culled-at, culled-other}
use Rattle.weak_refs.proofs.Noting.{rest-same, parts-same}
use Rattle.weak_refs.proofs.Pointers.{start-inside, kind-told, not-rewritten}
use Rattle.weak_refs.proofs.TablesNow.{table-now}
use Rattle.weak_refs.proofs.culling.cull_at.Goals as goal

pub kind_at-requires : goal.kind_at-requires
kind_at-requires g c =
    let q = c.requires.start_is in
    let inside = start-inside g.a (state c.args.copier.now) c.requires.places q.name c.args.start q.at in
    rw c.space.ensures (omega arith)

pub cull_table-requires : goal.cull_table-requires
cull_table-requires g c =
    let s = state c.args.copier.now in
    let q = c.requires.start_is in
    let kind : kind_of q.at.o.contents ≡ kinds.Table =
    sym (kind-told g.a s kinds.Table c.args.start c.requires.places q c.space.result.now (ap (λ w. w) c.space.ensures) c.kind_at.result c.kind_at.ensures) ∙ c.in-Table.is in
    let p = table-now g.a s c.args.start c.requires.places q kind in
    let room = c.requires.room in
    let long = ap length (culled-at g.a s c.args.start q.name c.requires.places p q.at) in
    record {
      places = c.requires.places;
      table = p;
      ready = subst (λ (k : Contents). Keeps (is_settled g.a s) k) p.contents c.requires.ready;
      room = omega arith;
    }

pub returns-in-Table-clause-noted : goal.returns-in-Table-clause-noted
returns-in-Table-clause-noted g c = λ name at.
    (let s = state c.args.copier.now in
    let q = c.requires.start_is in
    let kind : kind_of q.at.o.contents ≡ kinds.Table =
    sym (kind-told g.a s kinds.Table c.args.start c.requires.places q c.space.result.now (ap (λ w. w) c.space.ensures) c.kind_at.result c.kind_at.ensures) ∙ c.in-Table.is in
    let p = table-now g.a s c.args.start c.requires.places q kind in
    c.cull_table.ensures.noted p ∙ ap (λ (more : List CullNote). c.args.copier.now.notes.now.culls.items ++ more) (sym (culled-at g.a s c.args.start name c.requires.places p at)))

pub returns-in_default : goal.returns-in_default
returns-in_default g c =
    let s = state c.args.copier.now in
    let q = c.requires.start_is in
    let told = kind-told g.a s kinds.Table c.args.start c.requires.places q c.space.result.now (ap (λ w. w) c.space.ensures) c.kind_at.result c.kind_at.ensures in
    let other : kind_of q.at.o.contents ≢ kinds.Table = λ is. c.in_default.not-Table (told ∙ is) in
    record {
      left = not-rewritten g.a s kinds.Table c.args.start c.requires.places q.name q.at other;
      noted = λ name at. sym (ap (λ (more : List CullNote). c.args.copier.now.notes.now.culls.items ++ more) (culled-other g.a s c.args.start name c.requires.places q.name q.at at other)
          ∙ append-nil c.args.copier.now.notes.now.culls.items);
      room = refl;
      notes = record { rest = rest-same c.args.copier.now.notes.now; breaks = refl; queued = refl };
      parts = parts-same c.args.copier.now;
    }
