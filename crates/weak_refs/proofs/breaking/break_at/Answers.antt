-- The header tells a weak pointer.
use Rattle.std.proofs.Common.{◌≡◌, ◌≢◌, ℕ, List, ◌++◌, refl, sym, ◌∙◌, ap, arith}
use Rattle.std.proofs.lemmas.List.{append-nil}
use Rattle.heap_terms.specs.declared.kinds.Kind.TheVariants as kinds
use Rattle.heap_terms.specs.Objects.{kind_of}
use Rattle.copy_space.specs.State.{state}
use Rattle.weak_refs.proofs.Broken.{broken-at, broken-other, room-when-dead}
use Rattle.weak_refs.proofs.Noting.{rest-same, parts-same}
use Rattle.weak_refs.proofs.Pointers.{start-inside, kind-told, pointer-now, pointer-rewritten, not-rewritten}
use Rattle.weak_refs.proofs.breaking.break_at.Goals as goal

pub kind_at-requires : goal.kind_at-requires
kind_at-requires g c =
    let q = c.requires.start_is in
    let inside = start-inside g.a (state c.args.copier.now) c.requires.places q.name c.args.start q.at in
    rw c.space.ensures (omega arith)

pub break_pointer-requires : goal.break_pointer-requires
break_pointer-requires g c =
    let s = state c.args.copier.now in
    let q = c.requires.start_is in
    let kind : kind_of q.at.o.contents ≡ kinds.Weak =
    sym (kind-told g.a s kinds.Weak c.args.start c.requires.places q c.space.result.now (ap (λ w. w) c.space.ensures) c.kind_at.result c.kind_at.ensures) ∙ c.in-Weak.is in
    let p = pointer-now g.a s c.args.start q kind in
    record { places = c.requires.places; pointer = p; room = room-when-dead g.a s c.args.start c.args.copier.now.notes.now c.requires.places p c.requires.room }

pub returns-in-Weak-clause-left : goal.returns-in-Weak-clause-left
returns-in-Weak-clause-left g c =
    let s = state c.args.copier.now in
    let q = c.requires.start_is in
    let kind : kind_of q.at.o.contents ≡ kinds.Weak =
    sym (kind-told g.a s kinds.Weak c.args.start c.requires.places q c.space.result.now (ap (λ w. w) c.space.ensures) c.kind_at.result c.kind_at.ensures) ∙ c.in-Weak.is in
    let p = pointer-now g.a s c.args.start q kind in
    pointer-rewritten g.a s (state c.break_pointer.new.copier) c.args.start c.requires.places p (c.break_pointer.ensures.left p).is

pub returns-in-Weak-clause-noted : goal.returns-in-Weak-clause-noted
returns-in-Weak-clause-noted g c = λ name at.
    (let s = state c.args.copier.now in
    let q = c.requires.start_is in
    let kind : kind_of q.at.o.contents ≡ kinds.Weak =
    sym (kind-told g.a s kinds.Weak c.args.start c.requires.places q c.space.result.now (ap (λ w. w) c.space.ensures) c.kind_at.result c.kind_at.ensures) ∙ c.in-Weak.is in
    let p = pointer-now g.a s c.args.start q kind in
    (c.break_pointer.ensures.left p).noted ∙ ap (λ (more : List ℕ). c.args.copier.now.notes.now.breaks.items ++ more) (sym (broken-at g.a s c.args.start name c.requires.places p at)))

pub returns-in_default : goal.returns-in_default
returns-in_default g c =
    let s = state c.args.copier.now in
    let q = c.requires.start_is in
    let told = kind-told g.a s kinds.Weak c.args.start c.requires.places q c.space.result.now (ap (λ w. w) c.space.ensures) c.kind_at.result c.kind_at.ensures in
    let other : kind_of q.at.o.contents ≢ kinds.Weak = λ is. c.in_default.not-Weak (told ∙ is) in
    record {
      left = not-rewritten g.a s kinds.Weak c.args.start c.requires.places q.name q.at other;
      noted = λ name at. sym (ap (λ (more : List ℕ). c.args.copier.now.notes.now.breaks.items ++ more) (broken-other g.a s c.args.start name c.requires.places q.name q.at at other)
          ∙ append-nil c.args.copier.now.notes.now.breaks.items);
      room = refl;
      notes = record { rest = rest-same c.args.copier.now.notes.now; culls = refl; queued = refl };
      parts = parts-same c.args.copier.now;
    }
