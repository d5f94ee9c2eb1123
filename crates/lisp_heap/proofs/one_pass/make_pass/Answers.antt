-- What the pass did is recorded, and the labels follow it.
use Rattle.std.proofs.Common.{sym, ◌∙◌, subst, ap}
use Rattle.collect_pass.specs.Pass.{IsPassDone}
use Rattle.copy_space.specs.declared.notes.PassNotes.{PassNotes}
use Rattle.lisp_heap.specs.Recording.{relabelled}
use Rattle.lisp_heap.proofs.MakingPass.{labels_there, room_there, labels_fit, is_made, lists_stand}
use Rattle.lisp_heap.proofs.one_pass.make_pass.Goals as goal

pub write_record-record-requires-clause-labels : goal.write_record-record-requires-clause-labels
write_record-record-requires-clause-labels g c =
    let n = c.notes.result.now in
    let done : IsPassDone g.h c.run_pass.new.space c.run_pass.new.pages c.run_pass.new.finalizers c.run_pass.new.roots.exact.items c.run_pass.new.roots.ambiguous.items c.args.pass n =
    subst (λ (x : PassNotes). IsPassDone g.h c.run_pass.new.space c.run_pass.new.pages c.run_pass.new.finalizers c.run_pass.new.roots.exact.items c.run_pass.new.roots.ambiguous.items c.args.pass x) (sym c.notes.ensures) c.run_pass.ensures.done in
    labels_there g.h c.args.space.now c.args.pages.now c.args.labels.now c.args.scratch.now.roots.exact.items c.args.scratch.now.roots.ambiguous.items c.args.pass c.args.scratch.now.room c.args.room
    c.requires.0 c.run_pass.new.space c.run_pass.new.pages c.run_pass.new.roots.exact.items c.run_pass.new.roots.ambiguous.items n c.run_pass.new.finalizers done

pub write_record-record-requires-clause-room : goal.write_record-record-requires-clause-room
write_record-record-requires-clause-room g c =
    let n = c.notes.result.now in
    let done : IsPassDone g.h c.run_pass.new.space c.run_pass.new.pages c.run_pass.new.finalizers c.run_pass.new.roots.exact.items c.run_pass.new.roots.ambiguous.items c.args.pass n =
    subst (λ (x : PassNotes). IsPassDone g.h c.run_pass.new.space c.run_pass.new.pages c.run_pass.new.finalizers c.run_pass.new.roots.exact.items c.run_pass.new.roots.ambiguous.items c.args.pass x) (sym c.notes.ensures) c.run_pass.ensures.done in
    room_there g.h c.args.space.now c.args.pages.now c.args.labels.now c.args.scratch.now.roots.exact.items c.args.scratch.now.roots.ambiguous.items c.args.pass c.args.scratch.now.room c.args.room
    c.requires.0 c.run_pass.new.space c.run_pass.new.pages c.run_pass.new.roots.exact.items c.run_pass.new.roots.ambiguous.items n c.run_pass.new.finalizers done

pub relabel-requires : goal.relabel-requires
relabel-requires g c =
    let n = c.notes.result.now in
    let done : IsPassDone g.h c.run_pass.new.space c.run_pass.new.pages c.run_pass.new.finalizers c.run_pass.new.roots.exact.items c.run_pass.new.roots.ambiguous.items c.args.pass n =
    subst (λ (x : PassNotes). IsPassDone g.h c.run_pass.new.space c.run_pass.new.pages c.run_pass.new.finalizers c.run_pass.new.roots.exact.items c.run_pass.new.roots.ambiguous.items c.args.pass x) (sym c.notes.ensures) c.run_pass.ensures.done in
    labels_fit g.h c.args.space.now c.args.pages.now c.args.labels.now c.args.scratch.now.roots.exact.items c.args.scratch.now.roots.ambiguous.items c.args.pass c.args.scratch.now.room c.args.room
    c.requires.0 c.run_pass.new.space c.run_pass.new.pages c.run_pass.new.roots.exact.items c.run_pass.new.roots.ambiguous.items n c.run_pass.new.finalizers done c.write_record-record.result c.write_record-record.ensures
    c.as_slice.result.now c.as_slice.ensures

pub returns-clause-made : goal.returns-clause-made
returns-clause-made g c =
    let n = c.notes.result.now in
    let done : IsPassDone g.h c.run_pass.new.space c.run_pass.new.pages c.run_pass.new.finalizers c.run_pass.new.roots.exact.items c.run_pass.new.roots.ambiguous.items c.args.pass n =
    subst (λ (x : PassNotes). IsPassDone g.h c.run_pass.new.space c.run_pass.new.pages c.run_pass.new.finalizers c.run_pass.new.roots.exact.items c.run_pass.new.roots.ambiguous.items c.args.pass x) (sym c.notes.ensures) c.run_pass.ensures.done in
    is_made g.h c.args.space.now c.args.pages.now c.args.labels.now c.args.scratch.now.roots.exact.items c.args.scratch.now.roots.ambiguous.items c.args.pass c.args.scratch.now.room c.args.room
    c.requires.0 c.run_pass.new.space c.run_pass.new.pages c.run_pass.new.roots.exact.items c.run_pass.new.roots.ambiguous.items n c.run_pass.new.finalizers done c.write_record-record.result c.write_record-record.ensures
    c.relabel.new.labels (c.relabel.ensures ∙ ap (relabelled c.args.labels.now) c.as_slice.ensures)

pub returns-clause-finalizers : goal.returns-clause-finalizers
returns-clause-finalizers g c =
    let n = c.notes.result.now in
    let done : IsPassDone g.h c.run_pass.new.space c.run_pass.new.pages c.run_pass.new.finalizers c.run_pass.new.roots.exact.items c.run_pass.new.roots.ambiguous.items c.args.pass n =
    subst (λ (x : PassNotes). IsPassDone g.h c.run_pass.new.space c.run_pass.new.pages c.run_pass.new.finalizers c.run_pass.new.roots.exact.items c.run_pass.new.roots.ambiguous.items c.args.pass x) (sym c.notes.ensures) c.run_pass.ensures.done in
    lists_stand g.h c.args.space.now c.args.pages.now c.args.labels.now c.args.scratch.now.roots.exact.items c.args.scratch.now.roots.ambiguous.items c.args.pass c.args.scratch.now.room c.args.room
    c.requires.0 c.run_pass.new.space c.run_pass.new.pages c.run_pass.new.roots.exact.items c.run_pass.new.roots.ambiguous.items n c.run_pass.new.finalizers done c.write_record-record.result c.write_record-record.ensures
