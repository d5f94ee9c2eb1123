use Rattle.std.proofs.Common.{◌≡◌, take, length}
use Rattle.lisp_heap.specs.Recording.{relabelled}
use Rattle.lisp_heap.proofs.recording.relabel.Given as goal

abbrev pub invariant-loop-m : goal.invariant-loop-m
invariant-loop-m l = record {
  labels : l.labels ≡ relabelled l.fn.labels (take l.m-index l.moves);
  long : length l.labels ≡ length l.fn.labels;
}
