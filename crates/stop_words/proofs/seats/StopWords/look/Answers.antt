use Rattle.std.proofs.Common.{true, ap, sym, subst, ◌∙◌, arith}
use Rattle.atomic_table.specs.Seated.{TableId}
use Rattle.heap_terms.specs.declared.steps.WordStep
use Rattle.stop_words.proofs.Replying.{did, found_word, done_test}
use Rattle.stop_words.proofs.Looking.{one_look, found_parked}
use Rattle.stop_words.proofs.Moves.{looks}
use Rattle.stop_words.proofs.SeatFacts.{Facts, after_look, hand_before_look}
use Rattle.stop_words.proofs.seats.StopWords.look.Goals as goal

pub load-found-requires : goal.load-found-requires
load-found-requires g c =
    let seat = c.args.seat.now in let t = c.args.self.now in
    let o = c.requires.other in
    let k = t.counts in
    let f : Facts g.P.Owned.owner_of seat.thread seat.out seat.seat.table_id.slots seat.seat.me = record { number = seat.number; in_range = seat.in_range; idle = seat.idle; alone = seat.alone; hand = seat.hand; gathered = seat.gathered } in
    let same = ap (λ (z : TableId). z.slots) c.requires.seat in (
      c.requires.seat,
      omega arith,
      looks g.P.Owned.owner_of t.table.shared.key t.table.shared.table_id.slots seat.seat.id c.word_index-word.result c.args.other seat.seat.me c.word_index-word.ensures c.requires.place o.1
          (hand_before_look g.P.Owned.owner_of seat.thread seat.out seat.seat.table_id.slots t.table.shared.table_id.slots t.table.shared.key (sym same) (k.2 ∙ sym k.1) seat.seat.me f c.args.other c.requires.place),
    )

pub invariant_of-seat : goal.invariant_of-seat
invariant_of-seat g c =
    let seat = c.args.seat.now in
    let t = c.args.self.now in
    let now = c.load-found.new.seat in
    let e = c.load-found.ensures in
    let o = c.requires.other in
    let k = t.counts in
    let same = ap (λ (z : TableId). z.slots) c.requires.seat in
    let f : Facts g.P.Owned.owner_of seat.thread seat.out t.table.shared.table_id.slots seat.seat.me = subst (λ z. Facts g.P.Owned.owner_of seat.thread seat.out z seat.seat.me) same (record { number = seat.number; in_range = seat.in_range; idle = seat.idle; alone = seat.alone; hand = seat.hand; gathered = seat.gathered }) in
    let a = after_look g.P.Owned.owner_of seat.thread seat.out t.table.shared.table_id.slots now.table_id.slots (ap (λ (z : TableId). z.slots) e.0 ∙ same) seat.seat.me now.me f c.word_index-word.result c.args.other c.load-found.result c.word_index-word.ensures (omega arith) c.requires.place e.2 in
    record { number = a.number; in_range = a.in_range; idle = a.idle; alone = a.alone; hand = a.hand; gathered = a.gathered }

pub returns-clause-word : goal.returns-clause-word
returns-clause-word g c = let l = c.load-found in let p = l.ensures.2 c.args.other c.word_index-word.ensures in found_word (WordStep.TheVariants.Look c.args.other) l.result c.args.seat.now.seat.me.0 l.new.seat.me.0 p.0 p.1

pub returns-clause-answer : goal.returns-clause-answer
returns-clause-answer g c = let l = c.load-found in let p = l.ensures.2 c.args.other c.word_index-word.ensures in done_test c.args.other l.result c.args.seat.now.seat.me.0 l.new.seat.me.0 p.0

pub returns-clause-place : goal.returns-clause-place
returns-clause-place g c =
    let l = c.load-found in
    let p = l.ensures.2 c.args.other c.word_index-word.ensures in
    let o = one_look c.args.other c.args.seat.now.seat.me.0 l.new.seat.me.0 (did (WordStep.TheVariants.Look c.args.other) l.result c.args.seat.now.seat.me.0 l.new.seat.me.0 p.0) in
    (o.looked.thread, o.looked.place ∙ c.requires.place)

pub returns-clause-posted : goal.returns-clause-posted
returns-clause-posted g c =
    let l = c.load-found in
    let p = l.ensures.2 c.args.other c.word_index-word.ensures in
    (one_look c.args.other c.args.seat.now.seat.me.0 l.new.seat.me.0 (did (WordStep.TheVariants.Look c.args.other) l.result c.args.seat.now.seat.me.0 l.new.seat.me.0 p.0)).looked.posted

pub returns-clause-seen : goal.returns-clause-seen
returns-clause-seen g c = λ e.
    let l = c.load-found in
    let p = l.ensures.2 c.args.other c.word_index-word.ensures in
    let o = one_look c.args.other c.args.seat.now.seat.me.0 l.new.seat.me.0 (did (WordStep.TheVariants.Look c.args.other) l.result c.args.seat.now.seat.me.0 l.new.seat.me.0 p.0) in
    o.seen (found_parked c.args.other l.new.seat.me.0 true (sym e ∙ done_test c.args.other l.result c.args.seat.now.seat.me.0 l.new.seat.me.0 p.0))
