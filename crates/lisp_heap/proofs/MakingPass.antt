-- One pass over the fields of a World: its record has room, and the labels stand after it.
use Rattle.std.proofs.Common.{◌≡◌, ℕ, List, length, sym, ◌∙◌, subst, ap, arith}
use Rattle.std.proofs.lemmas.List.{length-map}
use Rattle.heap_terms.specs.declared.events.PassRecord.{PassRecord}
use Rattle.heap_terms.specs.declared.events.PinAt.{PinAt}
use Rattle.heap_terms.specs.declared.events.Placing.{Placing}
use Rattle.heap_terms.specs.declared.pages.Entry.{Entry}
use Rattle.heap_terms.specs.Passes.{after_pass}
use Rattle.heap_terms.specs.Policy.{target_of}
use Rattle.collect_pass.specs.Pass.{IsPassDone, RoomView}
use Rattle.copy_space.specs.declared.notes.Pass.{Pass}
use Rattle.copy_space.specs.declared.notes.PassNotes.{PassNotes}
use Rattle.copy_space.specs.Moved.{noted}
use Rattle.trace_laws.specs.Rooted.{Rooted}
use Rattle.finalizers.specs.Lists.{Lists}
use Rattle.finalizers.specs.Standing.{FinalizersStand}
use Rattle.lisp_heap.specs.Collecting.{CanMake, IsMade}
use Rattle.lisp_heap.specs.Recording.{AreWithin, CanRelabel, HasRoom, HaveLabels, recorded, relabelled, sizes_noted, sizes_of}
use Rattle.lisp_heap.specs.Standing.{LabelsStand}
use Rattle.lisp_heap.specs.declared.recording.RecordRoom.{RecordRoom}
use Rattle.pass_names.specs.Named.{AreNotes, Met}
use Rattle.lisp_heap.proofs.Pinned.{pins_few}
use Rattle.lisp_heap.proofs.RecordSizing.{room_within}
use Rattle.lisp_heap.proofs.WeakNoted.{breaks_few, culls_few, labels_of, met_in, notes_are, queued_few}
use Rattle.lisp_heap.proofs.Recorded.{freed_few, have_labels, moves_few, recorded_is}
use Rattle.lisp_heap.proofs.Relabelling.{LabelsStand-pass, can_relabel}

module _ (h : Rooted) (words : List ℕ) (pages : List Entry) (labels exact ambiguous : List ℕ) (pass : Pass) (room : RoomView) (record_room : RecordRoom)
    (can : CanMake h words pages labels exact ambiguous pass room record_room) (words' : List ℕ) (pages' : List Entry) (exact' ambiguous' : List ℕ) (n : PassNotes)
    (lists : Lists) (done : IsPassDone h words' pages' lists exact' ambiguous' pass n) where
  pub labels_there : HaveLabels labels n
  labels_there = have_labels h.heap labels n done.r can.can.stand.sound can.few_pages can.named done.told

  within : AreWithin (sizes_noted n) (sizes_of h.heap (length ambiguous))
  within =
      let target = target_of pass.generation pass.raise in
      let moves = moves_few h.heap pass.generation target done.r done.is_pass in
      let pins = pins_few h.heap pass.generation target done.r can.can.stand.sound done.is_pass ambiguous can.can.stand.roots.hits in
      let freed = freed_few h.heap pass.generation target done.r done.is_pass in
      let long_moves : length n.moves.items ≡ length done.r.moves = ap length done.told.moves ∙ length-map done.r.moves noted in
      let long_pins : length n.pins.items ≡ length done.r.pins = ap length done.told.pins ∙ length-map done.r.pins (λ (q : PinAt). q.index) in
      let long_freed : length n.freed.items ≡ length done.r.freed = ap length done.told.freed in
      record {
        moves = omega (arith, moves, long_moves);
        pins = omega (arith, pins, long_pins);
        culls = culls_few h.heap done.r n done.told;
        breaks = breaks_few h.heap done.r n done.told;
        queued = queued_few h.heap done.r n done.told pass.generation target done.is_pass;
        freed = omega (arith, freed, long_freed);
      }

  pub room_there : HasRoom record_room (sizes_noted n)
  room_there = room_within record_room (sizes_noted n) (sizes_of h.heap (length ambiguous)) can.fits within

  module _ (r : PassRecord) (written : (m : Met) → AreNotes m labels n → r ≡ recorded labels m n) where
    is_told : r ≡ done.r
    is_told =
        written (met_in h.heap done.r n done.told) (notes_are h.heap done.r n done.told labels (labels_of h.heap labels can.can.stand.sound can.few_pages can.named))
        ∙ recorded_is h.heap pass.generation (target_of pass.generation pass.raise) labels n done.r done.told can.named done.is_pass

    pub lists_stand : FinalizersStand (after_pass h.heap r) lists
    lists_stand = subst (λ (x : PassRecord). FinalizersStand (after_pass h.heap x) lists) (sym is_told) done.finalizers_stand

    pub labels_fit : (moves : List Placing) → moves ≡ r.moves → CanRelabel labels moves
    labels_fit moves are =
        subst (CanRelabel labels) (sym (are ∙ ap (λ (x : PassRecord). x.moves) is_told))
        (can_relabel h.heap pass.generation (target_of pass.generation pass.raise) done.r can.can.stand.sound done.is_pass done.stand.sound labels can.named.long)

    pub is_made : (labels' : List ℕ) → labels' ≡ relabelled labels r.moves → IsMade h words' pages' labels' exact' ambiguous' pass r
    is_made labels' are =
        let stand : LabelsStand (after_pass h.heap done.r) (relabelled labels done.r.moves) =
        LabelsStand-pass h.heap pass.generation (target_of pass.generation pass.raise) done.r can.can.stand.sound done.is_pass done.stand.sound labels can.named in
        let here : labels' ≡ relabelled labels done.r.moves = are ∙ ap (λ (x : PassRecord). relabelled labels x.moves) is_told in
        subst (λ (x : PassRecord). IsMade h words' pages' labels' exact' ambiguous' pass x) (sym is_told) (record {
          is_pass = done.is_pass;
          moved = done.told.moved;
          stand = done.stand;
          named = subst (LabelsStand (after_pass h.heap done.r)) (sym here) stand;
        })
