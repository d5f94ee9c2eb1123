-- From the end of tracing to the end of the pass.
use Rattle.std.proofs.Common.{◌≡◌, ℕ, ◌*◌, ◌≤◌, List, [], length, replicate, Bool, true, false, refl, sym, ◌∙◌, ap, subst, arith}
use Rattle.std.specs.Prelude.{count_by, vec_capacity}
use Rattle.heap_terms.specs.declared.events.PassRecord.{PassRecord}
use Rattle.heap_terms.specs.declared.limits.TheConstants.{OLDEST_COLLECTED}
use Rattle.heap_terms.specs.declared.pages.Entry.{Entry}
use Rattle.heap_terms.specs.Generations.{is_of, names}
use Rattle.heap_terms.specs.Passes.{IsPass, remains}
use Rattle.heap_terms.specs.Policy.{target_of}
use Rattle.copy_space.specs.declared.marks.Mark.{Mark}
use Rattle.copy_space.specs.declared.marks.Mark.TheVariants.{Fresh}
use Rattle.copy_space.specs.declared.notes.Move.{Move}
use Rattle.copy_space.specs.declared.notes.Pass.{Pass}
use Rattle.copy_space.specs.declared.notes.PassNotes.{PassNotes}
use Rattle.copy_space.specs.Clearing.{AreMarks}
use Rattle.copy_space.specs.CullNotes.{broken_of, culled_of}
use Rattle.copy_space.specs.Settled.{is_settled}
use Rattle.copy_space.specs.WeakNames.{AreWeakNames}
use Rattle.copy_space.proofs.Listed.{marks-told}
use Rattle.copy_space.proofs.Referents.{its}
use Rattle.page_sweep.specs.declared.sweeping.Traced.{Traced}
use Rattle.page_sweep.specs.Swept.{IsSwept as ArePagesSwept}
use Rattle.page_sweep.specs.Sweeping.{CanSweep}
use Rattle.finalizers.specs.Lists.{Lists}
use Rattle.finalizers.specs.Standing.{FinalizersStand}
use Rattle.finalizers.specs.Sweeping.{IsSwept, dead_ids}
use Rattle.finalizers.proofs.Standing.{swept-stand}
use Rattle.pin_set.specs.Starts.{Starts}
use Rattle.ambiguous_roots.specs.HitStarts.{AreHitStarts}
use Rattle.trace_laws.specs.Ends.{IsEnd}
use Rattle.trace_laws.specs.Noted.{IsToldBy}
use Rattle.trace_laws.specs.Rooted.{Rooted}
use Rattle.trace_laws.specs.Traced.{IsTraced}
use Rattle.trace_laws.proofs.Ending.{traces-end}
use Rattle.collect_pass.specs.declared.room.PassRoom.TheInside.{Inside}
use Rattle.collect_pass.specs.Pass.{RoomView, CanPass, IsPassDone}
use Rattle.collect_pass.specs.Room.{room_view, IsRoom, AreCleared, CanFinish, AreFinished}
use Rattle.collect_pass.specs.Tracing.{AreTraceNotes, end_state}
use Rattle.collect_pass.proofs.Begins.{held-long, few-pins}
use Rattle.collect_pass.proofs.Joined.{stand-after}
use Rattle.collect_pass.proofs.PagesAfter.{freed-after}
use Rattle.collect_pass.proofs.Headed.{all-headed}

pub target-low : (pass : Pass) → pass.generation ≤ OLDEST_COLLECTED → target_of pass.generation pass.raise ≤ 6
target-low pass low = go pass.raise
  where
    go : (b : Bool) → target_of pass.generation b ≤ 6
    go true = omega arith
    go false = omega arith

module _ (h : Rooted) (words : List ℕ) (pages : List Entry) (exact ambiguous : List ℕ) (pass : Pass) (view : RoomView) (can : CanPass h words pages exact ambiguous pass view)
    (r : Inside) (room : IsRoom r) (view_is : room_view r ≡ view) (pins : Starts) (hit : AreHitStarts h.heap pass.generation ambiguous pins.listed) (pins_most : pins.most ≡ r.pins.most)
    (count : ℕ) (count_is : count ≡ count_by (is_of h.heap pass.generation) (names h.heap)) (clear : PassNotes) (cleared : AreCleared r.notes clear)
    (words1 : List ℕ) (pages1 : List Entry) (marks1 : List Mark) (exact1 : List ℕ) (notes1 : PassNotes)
    (traced : IsTraced h (end_state h.heap words1 pages1 marks1 pins.listed pass notes1.moves.items) exact1)
    (same : AreTraceNotes h.heap (is_settled h.heap (end_state h.heap words1 pages1 marks1 pins.listed pass notes1.moves.items)) clear notes1) where
  pages-long : length pages1 ≡ length pages
  unfolding end_state
  pages-long = (its h.heap (end_state h.heap words1 pages1 marks1 pins.listed pass notes1.moves.items) traced.places).placing.lengths ∙ sym (ap length can.stand.pages_are)

  -- the sweep can be made
  pub can-sweep : (t : Traced) (moves : List Move) → moves ≡ notes1.moves.items → t.marks.now ≡ marks1 → t.pins.now.listed ≡ pins.listed → t.moves.now ≡ moves → t.pass ≡ pass →
      t.target ≡ target_of pass.generation pass.raise → CanSweep (record { heap = h.heap; state = end_state h.heap words1 pages1 marks1 pins.listed pass moves }) words1 pages1 t
  unfolding end_state
  can-sweep t moves moves_are marks_is pins_is moves_is pass_is target_is = record {
    tells = record {
      places = (subst (λ (ms : List Move). IsTraced h (end_state h.heap words1 pages1 marks1 pins.listed pass ms) exact1) (sym moves_are) traced).places;
      headed = all-headed h (end_state h.heap words1 pages1 marks1 pins.listed pass moves) exact1
          (subst (λ (ms : List Move). IsTraced h (end_state h.heap words1 pages1 marks1 pins.listed pass ms) exact1) (sym moves_are) traced);
      marks = marks_is;
      pins = pins_is;
      moves = moves_is;
      pass = pass_is;
      target = subst (λ (n : ℕ). n ≤ 6) (sym target_is) (target-low pass can.generation);
    };
    words_are = refl;
    pages_are = refl;
  }

  pub held-clear : r.held ≡ replicate (length pages1) false
  held-clear = room.held ∙ ap (λ (n : ℕ). replicate n false) (held-long h words pages exact ambiguous pass view can r room view_is ∙ sym pages-long)

  pub freed-none : notes1.freed.items ≡ []
  freed-none = ap (λ v. v.items) same.rest.freed ∙ cleared.freed

  pub freed-room : length pages1 ≤ vec_capacity notes1.freed
  freed-room =
      let long = pages-long in
      let held = held-long h words pages exact ambiguous pass view can r room view_is in
      let enough = room.notes.for_freed in
      let kept = cleared.freed_room in
      let kept' : vec_capacity notes1.freed ≡ vec_capacity clear.freed = ap vec_capacity same.rest.freed in
      omega arith

  -- the record that the end of tracing tells
  pub the_end : (record_of : PassRecord) × IsEnd h.heap (end_state h.heap words1 pages1 marks1 pins.listed pass notes1.moves.items) (target_of pass.generation pass.raise) record_of
  the_end = traces-end h (end_state h.heap words1 pages1 marks1 pins.listed pass notes1.moves.items) exact1 (target_of pass.generation pass.raise) can.stand.roots.exact_names traced
      (target-low pass can.generation)

  -- the notes can be finished
  pub can-finish : (notes : PassNotes) → notes.pins ≡ notes1.pins → notes.moves ≡ notes1.moves → CanFinish notes pins.listed count
  unfolding end_state
  can-finish notes pins_are moves_are =
      let few = few-pins h.heap pass.generation ambiguous pins.listed can.stand.sound hit in
      let enough = can.reserved.enough in
      let most : r.pins.most ≡ view.ambiguous = ap (λ (v : RoomView). v.ambiguous) view_is in
      let kept_room = room.notes.for_pins in
      let kept = cleared.pins_room in
      let kept' : vec_capacity notes.pins ≡ vec_capacity clear.pins = ap vec_capacity (pins_are ∙ same.rest.pins) in
      let told = the_end.1.kept in
      let dead = the_end.1.dead in
      let moves_long : length notes.moves.items ≡ length notes1.moves.items = ap (λ v. length v.items) moves_are in
      record {
        none = ap (λ v. v.items) pins_are ∙ ap (λ v. v.items) same.rest.pins ∙ cleared.pins;
        room = omega arith;
        kept = omega arith;
      }

  -- and the marks cleared
  pub can-clear : (moves : List Move) → moves ≡ notes1.moves.items → AreMarks marks1 pins.listed moves
  unfolding end_state
  can-clear moves moves_are =
      subst (λ (ms : List Move). AreMarks marks1 pins.listed ms) (sym moves_are)
      (marks-told h.heap (end_state h.heap words1 pages1 marks1 pins.listed pass notes1.moves.items) traced.places)

  module _ (moves2 : List Move) (moves_are : moves2 ≡ notes1.moves.items) (words2 : List ℕ) (pages2 : List Entry) (freed2 : List ℕ) (target : ℕ) (target_is : target ≡ target_of pass.generation pass.raise)
      (swept : ArePagesSwept h.heap (end_state h.heap words1 pages1 marks1 pins.listed pass moves2) target words2 pages2 freed2)
      (between notes2 : PassNotes) (between_moves : between.moves ≡ notes1.moves) (between_freed : between.freed.items ≡ freed2) (between_culls : between.culls ≡ notes1.culls)
      (between_breaks : between.breaks ≡ notes1.breaks) (between_queued : between.queued ≡ notes1.queued) (finished : AreFinished between notes2 pins.listed pass target count) where
    swept-is : ArePagesSwept h.heap (end_state h.heap words1 pages1 marks1 pins.listed pass notes1.moves.items) (target_of pass.generation pass.raise) words2 pages2 freed2
    swept-is =
        subst (λ (n : ℕ). ArePagesSwept h.heap (end_state h.heap words1 pages1 marks1 pins.listed pass notes1.moves.items) n words2 pages2 freed2) target_is
        (subst (λ (ms : List Move). ArePagesSwept h.heap (end_state h.heap words1 pages1 marks1 pins.listed pass ms) target words2 pages2 freed2) moves_are swept)

    is-pass : IsPass h.heap pass.generation (target_of pass.generation pass.raise) the_end.0
    unfolding end_state
    is-pass = the_end.1.is_pass

    -- what remains is what was settled
    settled-remains : is_settled h.heap (end_state h.heap words1 pages1 marks1 pins.listed pass notes1.moves.items) ≡ remains h.heap the_end.0
    settled-remains = λ i name. sym (the_end.1.remains_are name) i

    told : IsToldBy h.heap the_end.0 notes2
    unfolding end_state
    told =
        let e = the_end.1 in
        let total = e.dead in
        let kept_e = e.kept in
        let kept_f = finished.kept in
        let dead_f = finished.dead in
        let moves_long : length between.moves.items ≡ length notes1.moves.items = ap (λ v. length v.items) between_moves in
        record {
          generation = finished.generation ∙ sym e.is_pass.generation;
          target = finished.target_is ∙ target_is ∙ sym e.is_pass.target;
          moves = ap (λ v. v.items) finished.moves ∙ ap (λ v. v.items) between_moves ∙ e.moves;
          moved = e.moved;
          pins = finished.pins_are ∙ e.pins;
          pinned = e.pinned;
          weak_names = same.weak_names;
          weak = subst (λ (live : ℕ → Bool). AreWeakNames h.heap live same.weak_names) settled-remains same.weak;
          culls = ap (λ v. v.items) finished.culls ∙ ap (λ v. v.items) between_culls ∙ same.culls ∙ ap (λ (live : ℕ → Bool). culled_of h.heap live same.weak_names) settled-remains;
          breaks = ap (λ v. v.items) finished.breaks ∙ ap (λ v. v.items) between_breaks ∙ same.breaks ∙ ap (λ (live : ℕ → Bool). broken_of h.heap live same.weak_names) settled-remains;
          queued = ap (λ v. v.items) finished.queued ∙ ap (λ v. v.items) between_queued ∙ same.queued ∙ ap (λ (live : ℕ → Bool). dead_ids live h.heap.finalizers) settled-remains ∙ sym e.is_pass.queued;
          freed = ap (λ v. v.items) finished.freed ∙ between_freed
              ∙ freed-after h.heap (end_state h.heap words1 pages1 marks1 pins.listed pass notes1.moves.items) traced.places (target_of pass.generation pass.raise) the_end.0 the_end.1 words2 pages2 freed2 swept-is;
          dead = omega arith;
          kept = omega arith;
        }

    pub pass-done : (old new : Lists) → FinalizersStand h.heap old →
        IsSwept h.heap (end_state h.heap words1 pages1 marks1 pins.listed pass notes1.moves.items) h.heap.finalizers old new → IsPassDone h words2 pages2 new exact1 ambiguous pass notes2
    pass-done old new finalizers listed = record {
      r = the_end.0;
      is_pass = is-pass;
      told = told;
      stand = stand-after h (end_state h.heap words1 pages1 marks1 pins.listed pass notes1.moves.items) exact1 ambiguous exact traced can.stand.roots (target_of pass.generation pass.raise)
          the_end.0 the_end.1 (target-low pass can.generation) words2 pages2 freed2 swept-is;
      finalizers_stand = swept-stand h.heap (end_state h.heap words1 pages1 marks1 pins.listed pass notes1.moves.items) the_end.0 old new finalizers listed the_end.1.remains_are the_end.1.words;
    }

    -- the room is clear again
    pub room-again : (new : Inside) → new.marks ≡ replicate (length marks1) Fresh → new.hints ≡ r.hints → new.pins ≡ record { listed = []; most = pins.most } → new.weak.listed ≡ [] → new.weak.most ≡ r.weak.most → new.held ≡ r.held →
        vec_capacity new.notes.moves ≡ vec_capacity notes2.moves → vec_capacity new.notes.pins ≡ vec_capacity notes2.pins → vec_capacity new.notes.freed ≡ vec_capacity notes2.freed →
        vec_capacity new.notes.culls ≡ vec_capacity notes2.culls → vec_capacity new.notes.breaks ≡ vec_capacity notes2.breaks →
        vec_capacity between.pins ≡ vec_capacity notes1.pins → vec_capacity between.freed ≡ vec_capacity notes1.freed → IsRoom new
    unfolding end_state
    room-again new marks_are hints_are pins_are weak_are weak_most held_are for_moves for_pins for_freed for_culls for_breaks between_pins between_freed_room =
        let p = traced.places in
        let long = p.long in
        let marks_long = p.marks_long in
        let pages_same = ap length can.stand.pages_are in
        let held = held-long h words pages exact ambiguous pass view can r room view_is in
        let new_held : length new.held ≡ length r.held = ap length held_are in
        let marks_is : length marks1 ≡ 256 * length new.held = omega arith in
        let new_most : new.pins.most ≡ r.pins.most = ap (λ (s : Starts). s.most) pins_are ∙ pins_most in
        let a = room.notes.for_moves in
        let b = room.notes.for_pins in
        let d = room.notes.for_freed in
        let a1 = cleared.moves_room in
        let b1 = cleared.pins_room in
        let d1 = cleared.freed_room in
        let b2 : vec_capacity notes1.pins ≡ vec_capacity clear.pins = ap vec_capacity same.rest.pins in
        let d2 : vec_capacity notes1.freed ≡ vec_capacity clear.freed = ap vec_capacity same.rest.freed in
        let a3 : vec_capacity notes2.moves ≡ vec_capacity notes1.moves = ap vec_capacity finished.moves ∙ ap vec_capacity between_moves in
        let b3 : vec_capacity notes2.pins ≡ vec_capacity between.pins = finished.pins_room in
        let d3 : vec_capacity notes2.freed ≡ vec_capacity between.freed = ap vec_capacity finished.freed in
        let most = room.most in
        let c = room.notes.for_culls in
        let c1 = cleared.culls_room in
        let c2 = same.culls_room in
        let c3 : vec_capacity notes2.culls ≡ vec_capacity notes1.culls = ap vec_capacity finished.culls ∙ ap vec_capacity between_culls in
        let f = room.notes.for_breaks in
        let f1 = cleared.breaks_room in
        let f2 = same.breaks_room in
        let f3 : vec_capacity notes2.breaks ≡ vec_capacity notes1.breaks = ap vec_capacity finished.breaks ∙ ap vec_capacity between_breaks in
        let moves_room = same.moves_room in
        record {
          most = omega arith;
          marks = marks_are ∙ ap (λ (n : ℕ). replicate n Fresh) marks_is;
          hints = hints_are ∙ room.hints ∙ ap (λ (n : ℕ). replicate (256 * n) false) (sym new_held);
          pins = ap (λ (s : Starts). s.listed) pins_are;
          weak = weak_are;
          held = held_are ∙ room.held ∙ ap (λ (n : ℕ). replicate n false) (sym new_held);
          notes = record { for_moves = omega arith; for_pins = omega arith; for_freed = omega arith; for_culls = omega arith; for_breaks = omega arith };
        }
