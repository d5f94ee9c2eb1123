-- A cons of two words: it is placed and copied, or it stays.
use Rattle.std.proofs.Common.{◌≡◌, ℕ, ◌+◌, ◌∙◌, ap, subst, set, arith}
use Rattle.lisp_words.specs.declared.pointers.Lowtag.TheVariants as lowtags
use Rattle.word_space.proofs.Filling.{length_copied}
use Rattle.copy_space.specs.State.{state}
use Rattle.copy_space.specs.Step.{CanPlace}
use Rattle.copy_space.proofs.Copies.{forwarded}
use Rattle.copy_space.proofs.Ready.{cons-of, is-ready, cons-fits, cons-moved, cons-stayed}
use Rattle.copy_space.proofs.copier.Copier.settle_cons.Goals as goal

pub place-requires : goal.place-requires
place-requires g c =
    let s = state c.args.self.now in
    subst (λ (size : ℕ). CanPlace s.pages s.in_use size) (cons-of g.a s c.args.index c.args.word c.requires).size
    (is-ready g.a s c.args.index lowtags.List c.args.word c.requires).can

pub copy_pair-requires-clause-from_within : goal.copy_pair-requires-clause-from_within
copy_pair-requires-clause-from_within g c =
    let s = state c.args.self.now in
    omega (arith, (cons-of g.a s c.args.index c.args.word c.requires).size, (is-ready g.a s c.args.index lowtags.List c.args.word c.requires).inside)

pub copy_pair-requires-clause-to_within : goal.copy_pair-requires-clause-to_within
copy_pair-requires-clause-to_within g c =
    let s = state c.args.self.now in
    (cons-fits g.a s c.args.index c.args.word c.requires c.place.new.pages c.place.new.in_use c.in-Some.to (rw c.in-Some.is at c.place.ensures.step)).inside

pub copy_pair-requires-clause-small : goal.copy_pair-requires-clause-small
copy_pair-requires-clause-small g c = (is-ready g.a (state c.args.self.now) c.args.index lowtags.List c.args.word c.requires).small

pub forward-requires-clause-inside : goal.forward-requires-clause-inside
forward-requires-clause-inside g c =
    let s = state c.args.self.now in
    let inside = (is-ready g.a s c.args.index lowtags.List c.args.word c.requires).inside in
    let size = (cons-of g.a s c.args.index c.args.word c.requires).size in
    let fits = (cons-fits g.a s c.args.index c.args.word c.requires c.place.new.pages c.place.new.in_use c.in-Some.to (rw c.in-Some.is at c.place.ensures.step)).inside in
    let long = length_copied s.words c.args.index c.in-Some.to 2 (omega arith) fits in
    rw c.copy_pair.ensures (omega arith)

pub forward-requires-clause-small : goal.forward-requires-clause-small
forward-requires-clause-small g c =
    let s = state c.args.self.now in
    let ready = is-ready g.a s c.args.index lowtags.List c.args.word c.requires in
    let inside = ready.inside in
    let small = ready.small in
    let size = (cons-of g.a s c.args.index c.args.word c.requires).size in
    let fits = (cons-fits g.a s c.args.index c.args.word c.requires c.place.new.pages c.place.new.in_use c.in-Some.to (rw c.in-Some.is at c.place.ensures.step)).inside in
    let long = length_copied s.words c.args.index c.in-Some.to 2 (omega arith) fits in
    rw c.copy_pair.ensures (omega arith)

pub push_reserved-requires : goal.push_reserved-requires
push_reserved-requires g c =
    omega (arith, (is-ready g.a (state c.args.self.now) c.args.index lowtags.List c.args.word c.requires).push, c.args.self.now.notes.now.moves.ok.0)

pub push_reserved-requires-in-None : goal.push_reserved-requires-in-None
push_reserved-requires-in-None g c =
    omega (arith, (is-ready g.a (state c.args.self.now) c.args.index lowtags.List c.args.word c.requires).push, c.args.self.now.notes.now.moves.ok.0)

pub returns-in-Some-clause-evacuates : goal.returns-in-Some-clause-evacuates
returns-in-Some-clause-evacuates g c =
    let s = state c.args.self.now in
    let words : c.forward.new.space ≡ forwarded s.words c.args.index c.in-Some.to 2 c.tag-moved.result =
    c.forward.ensures ∙ ap (λ ws. set (set ws c.args.index 1) (c.args.index + 1) c.tag-moved.result) c.copy_pair.ensures in
    rw (c.push_reserved.ensures.items, c.push_reserved.ensures.capacity, c.set.ensures, words)
    (cons-moved g.a s c.args.index c.args.word c.requires c.place.new.pages c.place.new.in_use c.in-Some.to c.tag-moved.result (rw c.in-Some.is at c.place.ensures.step) c.tag-moved.ensures)

pub returns-in-None-clause-evacuates : goal.returns-in-None-clause-evacuates
returns-in-None-clause-evacuates g c =
    let s = state c.args.self.now in
    rw (c.push_reserved-in-None.ensures.items, c.push_reserved-in-None.ensures.capacity, c.set-in-None.ensures)
    (cons-stayed g.a s c.args.index c.args.word c.requires c.place.new.pages c.place.new.in_use (rw c.in-None.is at c.place.ensures.step))
