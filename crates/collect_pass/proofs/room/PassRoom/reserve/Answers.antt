-- A new room is clear and large enough.
use Rattle.std.proofs.Common.{◌≡◌, ℕ, ◌*◌, length, replicate, false, sym, ◌∙◌, ap, arith}
use Rattle.std.proofs.lemmas.List.{length-replicate}
use Rattle.copy_space.specs.declared.marks.Mark.TheVariants.{Fresh}
use Rattle.pin_set.specs.Starts.{Starts}
use Rattle.collect_pass.proofs.room.PassRoom.reserve.Goals as goal

pub invariant_of-result : goal.invariant_of-result
invariant_of-result c =
    let held = c.in_ok-new-6.ensures in
    let long : length c.in_ok-new-6.field-0 ≡ c.args.pages = ap length held ∙ length-replicate c.args.pages false in
    let pins = ap (λ (s : Starts). s.most) c.in_ok-new-3.ensures in
    let weak = ap (λ (s : Starts). s.most) c.in_ok-new-4.ensures in
    let notes = c.in_ok-reserve_notes.ensures in
    let pages_most = c.requires in
    record {
      most = omega arith;
      marks = c.in_ok-new.ensures ∙ ap (λ (n : ℕ). replicate (256 * n) Fresh) (sym long);
      hints = c.in_ok-new-2.ensures ∙ ap (λ (n : ℕ). replicate (256 * n) false) (sym long);
      pins = ap (λ (s : Starts). s.listed) c.in_ok-new-3.ensures;
      weak = ap (λ (s : Starts). s.listed) c.in_ok-new-4.ensures;
      held = held ∙ ap (λ (n : ℕ). replicate n false) (sym long);
      notes = record {
        for_moves = (let room = notes.for_moves in omega arith);
        for_pins = (let room = notes.for_pins in omega arith);
        for_freed = (let room = notes.for_freed in omega arith);
        for_culls = (let room = notes.for_culls in omega arith);
        for_breaks = (let room = notes.for_breaks in omega arith);
      };
    }
