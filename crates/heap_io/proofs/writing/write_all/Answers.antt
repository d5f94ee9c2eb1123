use Rattle.std.proofs.Common.{◌≡◌, ◌∙◌, ◌-◌, length, take, drop, arith}
use Rattle.std.proofs.Math.Seq.{take-add}
use Rattle.heap_io.proofs.StreamLemmas.{Grew-Grew, take-drop_rest}
use Rattle.heap_io.proofs.writing.write_all.Goals as goal

pub loop-written-preserved : goal.loop-written-preserved
loop-written-preserved g c =
    let so_far = c.loop-written.invariant in
    let bytes = c.args.bytes.now in
    let n = c.loop-written.written in
    let whole : take (length bytes - n) (drop n bytes) ≡ drop n bytes = take-drop_rest n bytes in
    let more = rw whole at c.in-Ok.ensures.appended in
    record {
      within = grind arith;
      appended = rw (take-add n c.in-Ok.k bytes) (Grew-Grew _ _ _ _ _ so_far.appended more);
      quiet = c.in-Ok.ensures.quiet ∙ so_far.quiet;
      untouched = λ h. absurd (omega (arith, c.in-Ok.ensures.some));
    }
