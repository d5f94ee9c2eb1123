use Rattle.std.proofs.Common.{◌≡◌, ◌≤◌, ◌<◌, ◌+◌, ◌-◌, length, vec_len}
use Rattle.heap_io.specs.Streams.{Gave}
use Rattle.heap_io.proofs.reading.read_pieces.Given as goal

abbrev pub invariant-loop-bytes : goal.invariant-loop-bytes
invariant-loop-bytes g l = record {
  room : 0 < length l.piece;
  within : vec_len l.bytes ≤ l.limit;
  gave : Gave (g.S.Source.state l.initial.source).contents (g.S.Source.state l.source).contents l.bytes.items;
  quiet : (g.S.Source.state l.source).faults ≡ (g.S.Source.state l.initial.source).faults;
}

abbrev pub decreases-loop-bytes : goal.decreases-loop-bytes
decreases-loop-bytes g l = l.limit + 1 - vec_len l.bytes
