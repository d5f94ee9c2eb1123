use Rattle.std.proofs.Common.{◌≡◌, suc, refl, ap, ◌∙◌, length, arith}
use Rattle.stop_words.specs.Rule.{splitting}
use Rattle.stop_words.proofs.Start.{splits}
use Rattle.stop_words.proofs.Seating.{others_push}
use Rattle.stop_words.proofs.seats.StopWords.split_all.Goals as goal

pub split_seat-seat-requires : goal.split_seat-seat-requires
split_seat-seat-requires g c =
    let i = c.loop-thread.invariant in
    let t = c.args.self.now in
    let given = ap (λ m. m.0.given) i.first in
    let k = t.counts in
    (i.table ∙ c.requires.table, omega arith, splits g.P.Owned.owner_of t.table.shared.key c.loop-thread.first.id c.loop-thread.first.me.0 (ap (λ m. m.0.thread) i.first) (omega arith))

pub loop-thread-preserved : goal.loop-thread-preserved
loop-thread-preserved g c =
    let i = c.loop-thread.invariant in
    let s = c.split_seat-seat.ensures in
    let given = ap (λ m. m.0.given) i.first in
    let p = c.push_reserved.ensures in
    let count : suc (length c.loop-thread.seats.items) ≡ c.loop-thread.thread = let v = c.loop-thread.seats.ok.0 in let n = i.count in omega arith in record {
      table = s.0 ∙ i.table;
      first = s.2 ∙ ap (λ m. (splitting m.0, m.1)) i.first;
      count = let l = p.len in let n = i.count in omega arith;
      room = p.capacity ∙ i.room;
      fresh = others_push c.args.self.now c.loop-thread.seats.items c.push_reserved.new.self.items _ c.loop-thread.thread p.items count i.fresh (record {
        seat_of = s.3 ∙ i.table ∙ c.requires.table;
        number = ap (λ m. m.0.thread) s.4 ∙ given;
        parked = ap (λ m. m.0.place) s.4;
        unused = ap (λ m. m.0.steps) s.4;
        none_out = refl;
      });
    }
