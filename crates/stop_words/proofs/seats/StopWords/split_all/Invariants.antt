use Rattle.std.proofs.Common.{◌≡◌, ◌+◌, [], vec_len, vec_capacity}
use Rattle.stop_words.specs.Seats.{OthersFresh}
use Rattle.stop_words.specs.Rule.{giving}
use Rattle.stop_words.proofs.seats.StopWords.split_all.Given as goal

abbrev pub invariant-loop-thread : goal.invariant-loop-thread
invariant-loop-thread g l = record {
  table : l.first.table_id ≡ l.initial.first.table_id;
  first : l.first.me ≡ (giving l.thread, []);
  count : vec_len l.seats + 1 ≡ l.thread;
  room : vec_capacity l.seats ≡ vec_capacity l.initial.seats;
  fresh : OthersFresh l.self l.seats.items;
}
