-- The cons in a parcel is committed.
use Rattle.std.proofs.Common.{ℕ, subst, sym, ◌∙◌, refl}
use Rattle.heap_terms.specs.declared.commands.Command.TheVariants as commands
use Rattle.heap_terms.specs.declared.kinds.Kind.TheVariants as kinds
use Rattle.lisp_heap.specs.Agreement.{Agrees, accepted_for}
use Rattle.lisp_heap.specs.ParcelView.{ParcelView}
use Rattle.lisp_heap.specs.View.{heap_of, next_of}
use Rattle.lisp_heap.specs.declared.parcels.Making.{Making}
use Rattle.lisp_heap.proofs.Accepting.{made_for, made_commit, made_accepted, region_there}
use Rattle.lisp_heap.proofs.world.World.commit_cons.Goals as goal

abbrev cons_making : Making
cons_making = record { kind = kinds.Cons; n = 2; seed = 0 }

pub next_for-index-requires : goal.next_for-index-requires
next_for-index-requires c =
    let f = made_for c.self.inside c.args.self.now c.self.view_is c.args.parcel.now (commands.NewCons c.args.d c.args.a c.args.b) cons_making c.requires.built c.requires.command refl in
    region_there c.args.parcel.now cons_making f.built

pub place-requires-clause-commit : goal.place-requires-clause-commit
place-requires-clause-commit c =
    let f = made_for c.self.inside c.args.self.now c.self.view_is c.args.parcel.now (commands.NewCons c.args.d c.args.a c.args.b) cons_making c.requires.built c.requires.command refl in
    made_commit c.self.inside c.args.self.now c.self.invariant c.self.view_is c.args.parcel.now (commands.NewCons c.args.d c.args.a c.args.b) c.args.d cons_making c.owner-t.result c.next_for-index.result f
    c.requires.agrees c.owner-t.ensures c.requires.command refl refl c.next_for-index.ensures

pub accept-requires : goal.accept-requires
accept-requires c =
    let f = made_for c.self.inside c.args.self.now c.self.view_is c.args.parcel.now (commands.NewCons c.args.d c.args.a c.args.b) cons_making c.requires.built c.requires.command refl in
    f.built

pub returns-clause-accepted : goal.returns-clause-accepted
returns-clause-accepted c =
    let f = made_for c.self.inside c.args.self.now c.self.view_is c.args.parcel.now (commands.NewCons c.args.d c.args.a c.args.b) cons_making c.requires.built c.requires.command refl in
    c.accept.ensures ∙ made_accepted c.self.inside c.args.self.now c.self.view_is c.args.parcel.now cons_making f

pub returns-clause-agrees : goal.returns-clause-agrees
returns-clause-agrees c =
    subst (λ (q : ParcelView). Agrees (heap_of c.place.new.self) q) (sym (returns-clause-accepted c))
    (subst (λ (u : ℕ). Agrees (heap_of c.place.new.self) (accepted_for (next_of c.args.self.now u) c.args.parcel.now)) c.owner-t.ensures
    (c.in_ok-name.ensures.agrees c.args.parcel.now (sym c.owner-t.ensures) c.requires.agrees))
