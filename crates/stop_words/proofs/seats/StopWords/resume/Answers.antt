use Rattle.std.proofs.Common.{ap, ◌∙◌}
use Rattle.stop_words.specs.Hands.{hand_at}
use Rattle.stop_words.proofs.SeatFacts.{no_hand}
use Rattle.stop_words.proofs.seats.StopWords.resume.Goals as goal

pub come_back-requires-clause-place : goal.come_back-requires-clause-place
come_back-requires-clause-place g c κs within = let s = c.args.seat.now in (c.requires.place, no_hand g.P.Owned.owner_of s.seat.me.1 (s.hand ∙ ap (λ p. hand_at p s.seat.me.0.thread s.seat.me.0.seen s.out s.seat.table_id.slots) c.requires.place))
