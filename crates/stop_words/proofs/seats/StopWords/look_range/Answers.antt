use Rattle.std.proofs.Common.{true, sym, ◌∙◌, arith}
use Rattle.stop_words.proofs.Looking.{found_parked, one_more}
use Rattle.stop_words.proofs.seats.StopWords.look_range.Goals as goal

pub loop-other-preserved : goal.loop-other-preserved
loop-other-preserved g c =
    let i = c.loop-other.invariant in
    let l = c.look.ensures in
    let now = c.look.new.seat.seat.me.0 in record {
      table = l.seat.0 ∙ sym c.requires.seat;
      out = l.seat.1 ∙ i.out;
      seen = one_more c.args.from c.loop-other.other c.args.seat.now.seat.me.0 c.loop-other.seat.seat.me.0 now (omega arith) i.seen l.step (found_parked c.loop-other.other now true (sym c.if-not-look.false ∙ l.answer));
    }
