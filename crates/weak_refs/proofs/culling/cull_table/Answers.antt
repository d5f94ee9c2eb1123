-- The pairs are gone through, the rest is cleared, the count is written.
use Rattle.std.proofs.Common.{◌≡◌, ℕ, ◌+◌, ◌*◌, length, ◌∙◌, ap, subst, arith}
use Rattle.copy_space.specs.State.{state}
use Rattle.weak_refs.specs.Culling.{IsCleared}
use Rattle.weak_refs.proofs.Culled.{can-clear, table-rewritten}
use Rattle.weak_refs.proofs.TablesNow.{table-inside}
use Rattle.weak_refs.proofs.culling.cull_table.Goals as goal

pub place_before-place-requires : goal.place_before-place-requires
place_before-place-requires g c =
    let inside = table-inside g.a (state c.args.copier.now) c.args.start c.requires.places c.requires.table in
    record { places = c.requires.places; inside = omega arith }

pub keep_pairs-to-requires : goal.keep_pairs-to-requires
keep_pairs-to-requires g c =
    let q = c.requires.table in
    record { can = c.requires; place_is = c.place_before-place.ensures q.name q.o q.there q.here; count_is = c.pair_count-count.ensures q }

pub clear-requires : goal.clear-requires
clear-requires g c =
    let q = c.requires.table in
    let count = c.pair_count-count.ensures q in
    can-clear g.a (state c.args.copier.now) c.args.start c.requires.places q c.requires.ready (state c.keep_pairs-to.new.copier) c.keep_pairs-to.result (c.keep_pairs-to.ensures.kept q)
    (c.args.start + 4 + 2 * c.pair_count-count.result) (omega arith)

pub write-requires : goal.write-requires
write-requires g c =
    let inside = table-inside g.a (state c.args.copier.now) c.args.start c.requires.places c.requires.table in
    let long = c.clear.ensures.cleared.places.long in
    let long_before = c.requires.places.long in
    omega arith

pub returns-clause-left : goal.returns-clause-left
returns-clause-left g c =
    let q = c.requires.table in
    let end : c.args.start + 4 + 2 * c.pair_count-count.result ≡ c.args.start + 4 + 2 * length q.pairs = (let count = c.pair_count-count.ensures q in omega arith) in
    table-rewritten g.a (state c.args.copier.now) c.args.start c.requires.places q c.requires.ready (state c.keep_pairs-to.new.copier) c.keep_pairs-to.result (c.keep_pairs-to.ensures.kept q)
    (state c.clear.new.copier) (state c.write.new.self)
    (subst (λ (n : ℕ). IsCleared g.a (state c.keep_pairs-to.new.copier) (state c.clear.new.copier) c.keep_pairs-to.result n) end c.clear.ensures.cleared)
    c.from.result c.from.ensures c.write.ensures.words

pub returns-clause-noted : goal.returns-clause-noted
returns-clause-noted g c = λ q. ap (λ v. v.items) (c.write.ensures.notes.culls ∙ c.clear.ensures.culls) ∙ c.keep_pairs-to.ensures.noted q
