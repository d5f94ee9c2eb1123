use Rattle.std.proofs.Common.{ap, get_or}
use Rattle.lisp_heap.specs.ParcelView.{ParcelView}
use Rattle.lisp_heap.specs.View.{View}
use Rattle.heap_turns.proofs.Ready.{ready_turned}
use Rattle.heap_turns.proofs.turns.turn.Goals as goal

pub returns-in_err-_stays-clause-ready : goal.returns-in_err-_stays-clause-ready
returns-in_err-_stays-clause-ready c =
    ready_turned c.args.world.now c.event.new.world c.args.parcels.now c.args.t (get_or c.args.parcels.now c.args.t c.index-parcels-t.result) c.event.new.parcel c.requires.ready c.requires.goes.thread (ap (λ (d : ParcelView). get_or c.args.parcels.now c.args.t d) c.index-parcels-t.is)
    (ap (λ (w : View). w.program) c.in_err-_stays.ensures.err) c.event.ensures.owner c.event.ensures.agrees c.event.ensures.others

pub returns-clause-ready : goal.returns-clause-ready
returns-clause-ready c =
    ready_turned c.args.world.now c.event.new.world c.args.parcels.now c.args.t (get_or c.args.parcels.now c.args.t c.index-parcels-t.result) c.event.new.parcel c.requires.ready c.requires.goes.thread (ap (λ (d : ParcelView). get_or c.args.parcels.now c.args.t d) c.index-parcels-t.is)
    c.in_ok-_stays.ensures.ok.happens.program c.event.ensures.owner c.event.ensures.agrees c.event.ensures.others
