use Rattle.std.proofs.Common.{ap, ◌∙◌, arith}
use Rattle.atomic_table.specs.Seated.{TableId}
use Rattle.heap_terms.specs.declared.steps.WordStep
use Rattle.stop_words.proofs.Replying.{did, found_word, inside_test}
use Rattle.stop_words.specs.declared.view.View.{View}
use Rattle.stop_words.proofs.Moves.{posts}
use Rattle.stop_words.proofs.SeatFacts.{Facts, after_post}
use Rattle.stop_words.proofs.seats.StopWords.post.Goals as goal

pub fetch_or-found-requires : goal.fetch_or-found-requires
fetch_or-found-requires g c =
    let seat = c.args.seat.now in let t = c.args.self.now in
    let o = c.requires.other in
    let k = t.counts in
    (c.requires.seat, omega arith, posts g.P.Owned.owner_of t.table.shared.key t.table.shared.table_id.slots seat.seat.id c.word_index-word.result c.args.other seat.seat.me c.word_index-word.ensures c.requires.place (omega arith) c.requires.other.1)

pub invariant_of-seat : goal.invariant_of-seat
invariant_of-seat g c =
    let seat = c.args.seat.now in
    let now = c.fetch_or-found.new.seat in
    let e = c.fetch_or-found.ensures in
    let p = e.2 c.args.other c.word_index-word.ensures in
    let f : Facts g.P.Owned.owner_of seat.thread seat.out seat.seat.table_id.slots seat.seat.me = record { number = seat.number; in_range = seat.in_range; idle = seat.idle; alone = seat.alone; hand = seat.hand; gathered = seat.gathered } in
    let a = after_post g.P.Owned.owner_of seat.thread seat.out seat.seat.table_id.slots now.table_id.slots (ap (λ (z : TableId). z.slots) e.0) seat.seat.me now.me f c.fetch_or-found.result c.args.other c.requires.place p.0 p.1 in
    record { number = a.number; in_range = a.in_range; idle = a.idle; alone = a.alone; hand = a.hand; gathered = a.gathered }

pub returns-clause-step : goal.returns-clause-step
returns-clause-step g c = let l = c.fetch_or-found in let p = l.ensures.2 c.args.other c.word_index-word.ensures in did (WordStep.TheVariants.Post c.args.other) l.result c.args.seat.now.seat.me.0 l.new.seat.me.0 p.0

pub returns-clause-word : goal.returns-clause-word
returns-clause-word g c = let l = c.fetch_or-found in let p = l.ensures.2 c.args.other c.word_index-word.ensures in found_word (WordStep.TheVariants.Post c.args.other) l.result c.args.seat.now.seat.me.0 l.new.seat.me.0 p.0 p.2

pub returns-clause-answer : goal.returns-clause-answer
returns-clause-answer g c = let l = c.fetch_or-found in let p = l.ensures.2 c.args.other c.word_index-word.ensures in inside_test c.args.other l.result c.args.seat.now.seat.me.0 l.new.seat.me.0 p.0

pub returns-clause-place : goal.returns-clause-place
returns-clause-place g c =
    let p = c.fetch_or-found.ensures.2 c.args.other c.word_index-word.ensures in
    (ap (λ (v : View). v.thread) p.0, ap (λ (v : View). v.place) p.0 ∙ c.requires.place)

pub returns-clause-posted : goal.returns-clause-posted
returns-clause-posted g c = let p = c.fetch_or-found.ensures.2 c.args.other c.word_index-word.ensures in ap (λ (v : View). v.posted) p.0
