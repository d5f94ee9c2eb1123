-- A collection closes all parcels.
use Rattle.std.proofs.Common.{◌≡◌, ℕ, List, length, map, sym, ◌∙◌, subst, ap, Bool, true, is_ok}
use Rattle.std.specs.Prelude.{not}
use Rattle.heap_terms.specs.declared.programs.Program.{Program}
use Rattle.lisp_heap.specs.Agreement.{Agrees}
use Rattle.lisp_heap.specs.Events.{Happens}
use Rattle.lisp_heap.specs.ParcelView.{ParcelView, empty_parcel}
use Rattle.lisp_heap.specs.Ready.{AreByOwner, AreReady, owner_of}
use Rattle.lisp_heap.specs.View.{View, heap_of}
use Rattle.lisp_heap.proofs.Letting.{count_of, empty_owners, empty_ready, nobody_inhibits, on_ok}
use Rattle.lisp_heap.proofs.Soundness.{well_formed}
use Rattle.lisp_heap.proofs.world.World.collect.Goals as goal

pub lowest_busy-requires : goal.lowest_busy-requires
lowest_busy-requires c = count_of c.args.parcels.now (length c.args.self.now.program.threads) c.requires.owners

pub make_collection-requires-clause-allowed : goal.make_collection-requires-clause-allowed
make_collection-requires-clause-allowed c =
    let s = c.self.inside in
    let w = c.args.self.now in
    let threads : length w.program.threads ≡ length (heap_of w).threads =
    subst (λ (v : View). length v.program.threads ≡ length (heap_of v).threads) c.self.view_is (sym (well_formed s c.self.invariant).threads_length) in
    nobody_inhibits (heap_of w) c.args.parcels.now (count_of c.args.parcels.now (length w.program.threads) c.requires.owners ∙ threads) c.in_default.ensures

pub returns-clause-ready : goal.returns-clause-ready
returns-clause-ready c =
    let fine : is_ok c.make_collection.result ≡ true = c.is_err.ensures.negation ∙ ap (λ (b : Bool). not b) c.if-is_err.false in
    let happened = on_ok (Happens c.args.t c.args.self.now c.make_collection.new.self) c.make_collection.result fine c.make_collection.ensures.ok in
    let agree = on_ok ((u : ℕ) → Agrees (heap_of c.make_collection.new.self) (empty_parcel u)) c.make_collection.result fine c.make_collection.ensures.agrees in
    let owners : AreByOwner c.args.parcels.now (length c.make_collection.new.self.program.threads) =
    subst (λ (p : Program). AreByOwner c.args.parcels.now (length p.threads)) (sym happened.program) c.requires.owners in
    subst (λ (qs : List ParcelView). AreReady (heap_of c.make_collection.new.self) qs (length c.make_collection.new.self.program.threads)) (sym c.close_parcels.ensures)
    (empty_ready (heap_of c.make_collection.new.self) c.args.parcels.now (length c.make_collection.new.self.program.threads) owners agree)

pub returns-clause-owners : goal.returns-clause-owners
returns-clause-owners c = ap (map owner_of) c.close_parcels.ensures ∙ empty_owners c.args.parcels.now
