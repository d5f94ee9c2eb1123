-- The object that was built in a parcel is committed.
use Rattle.std.proofs.Common.{ℕ, subst, sym, ◌∙◌}
use Rattle.lisp_heap.specs.Agreement.{Agrees, accepted_for}
use Rattle.lisp_heap.specs.ParcelView.{ParcelView}
use Rattle.lisp_heap.specs.View.{heap_of, next_of}
use Rattle.lisp_heap.proofs.Accepting.{built_wish, made_for, made_commit, made_accepted, region_there, wish_told}
use Rattle.lisp_heap.proofs.world.World.commit_built.Goals as goal

pub unwrap-making-requires : goal.unwrap-making-requires
unwrap-making-requires c =
    built_wish c.self.inside c.args.self.now c.self.view_is c.args.parcel.now c.args.command c.wish.result c.requires.built c.requires.command c.wish.ensures.wish

pub next_for-index-requires : goal.next_for-index-requires
next_for-index-requires c =
    let wish = wish_told c.wish.result c.args.command c.unwrap-making.result c.wish.ensures.wish c.unwrap-making.ensures in
    let f = made_for c.self.inside c.args.self.now c.self.view_is c.args.parcel.now c.args.command c.unwrap-making.result c.requires.built c.requires.command wish in
    region_there c.args.parcel.now c.unwrap-making.result f.built

pub built-words-requires : goal.built-words-requires
built-words-requires c =
    let wish = wish_told c.wish.result c.args.command c.unwrap-making.result c.wish.ensures.wish c.unwrap-making.ensures in
    let f = made_for c.self.inside c.args.self.now c.self.view_is c.args.parcel.now c.args.command c.unwrap-making.result c.requires.built c.requires.command wish in
    f.built

pub place_built-requires-clause-commit : goal.place_built-requires-clause-commit
place_built-requires-clause-commit c =
    let wish = wish_told c.wish.result c.args.command c.unwrap-making.result c.wish.ensures.wish c.unwrap-making.ensures in
    let f = made_for c.self.inside c.args.self.now c.self.view_is c.args.parcel.now c.args.command c.unwrap-making.result c.requires.built c.requires.command wish in
    made_commit c.self.inside c.args.self.now c.self.invariant c.self.view_is c.args.parcel.now c.args.command c.unwrap-d.result c.unwrap-making.result c.owner-t.result c.next_for-index.result f
    c.requires.agrees c.owner-t.ensures c.requires.command wish (sym c.destination.ensures ∙ c.unwrap-d.ensures) c.next_for-index.ensures

pub accept-requires : goal.accept-requires
accept-requires c =
    let wish = wish_told c.wish.result c.args.command c.unwrap-making.result c.wish.ensures.wish c.unwrap-making.ensures in
    let f = made_for c.self.inside c.args.self.now c.self.view_is c.args.parcel.now c.args.command c.unwrap-making.result c.requires.built c.requires.command wish in
    f.built

pub returns-clause-accepted : goal.returns-clause-accepted
returns-clause-accepted c =
    let wish = wish_told c.wish.result c.args.command c.unwrap-making.result c.wish.ensures.wish c.unwrap-making.ensures in
    let f = made_for c.self.inside c.args.self.now c.self.view_is c.args.parcel.now c.args.command c.unwrap-making.result c.requires.built c.requires.command wish in
    c.accept.ensures ∙ made_accepted c.self.inside c.args.self.now c.self.view_is c.args.parcel.now c.unwrap-making.result f

pub returns-clause-agrees : goal.returns-clause-agrees
returns-clause-agrees c =
    subst (λ (q : ParcelView). Agrees (heap_of c.place_built.new.self) q) (sym (returns-clause-accepted c))
    (subst (λ (u : ℕ). Agrees (heap_of c.place_built.new.self) (accepted_for (next_of c.args.self.now u) c.args.parcel.now)) c.owner-t.ensures
    (c.in_ok-name.ensures.agrees c.args.parcel.now (sym c.owner-t.ensures) c.requires.agrees))
