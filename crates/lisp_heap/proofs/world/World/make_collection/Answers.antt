-- What the collection worked with is kept: its room is still enough, since the program is the same.
use Rattle.std.proofs.Common.{◌≡◌, ℕ, Result, Ok, Err, sym, ◌∙◌, ap, subst}
use Rattle.std.specs.Prelude.{OnOk, OnErr}
use Rattle.heap_terms.specs.declared.faults.Memory.{Memory}
use Rattle.heap_terms.specs.declared.programs.Program.{Program}
use Rattle.lisp_heap.specs.Agreement.{Agrees}
use Rattle.lisp_heap.specs.Events.{Happens}
use Rattle.lisp_heap.specs.ParcelView.{empty_parcel}
use Rattle.lisp_heap.specs.View.{View, heap_of}
use Rattle.lisp_heap.specs.WorldSound.{IsRoomFor}
use Rattle.lisp_heap.specs.declared.scratch.Scratch.{Scratch}
use Rattle.lisp_heap.proofs.world.World.make_collection.Goals as goal

same_program : (t : ℕ) (old new : View) (r : Result (Unit {0}) Memory) → OnOk r (Happens t old new) → OnErr r (new ≡ old) → new.program ≡ old.program
same_program t old new (Ok done) happens same = happens.program
same_program t old new (Err fault) happens same = ap (λ (w : View). w.program) same

pub invariant_of-self : goal.invariant_of-self
invariant_of-self c =
    let made = c.collect_with-result in
    let program = ap (λ (w : View). w.program) c.self.view_is
    ∙ same_program c.args.t c.take_scratch.new.self made.new.self made.result made.ensures.ok made.ensures.err in
    record {
      valid = c.self.invariant.valid;
      lawful = c.self.invariant.lawful;
      holds = c.self.invariant.holds;
      scratch = λ x is.
          (let same : made.new.scratch ≡ x = cc in
          subst (λ (y : Scratch). IsRoomFor c.self.inside.program y) same (subst (λ (p : Program). IsRoomFor p made.new.scratch) (sym program) made.ensures.room));
    }

pub returns-clause-agrees : goal.returns-clause-agrees
returns-clause-agrees c =
    let made = c.collect_with-result in
    subst (λ (w : View). OnOk made.result ((u : ℕ) → Agrees (heap_of w) (empty_parcel u))) (sym c.self.view_is) made.ensures.agrees
