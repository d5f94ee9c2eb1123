-- The commands so far are in range, and the collections among them are counted.
use Rattle.std.specs.Prelude.{◌≡◌, ◌≤◌, All, count_by}
use Rattle.heap_terms.specs.Valid.{IsCommand, is_gc}
use Rattle.heap_tests.proofs.passes.checked.Given as goal

abbrev pub invariant-loop-command : goal.invariant-loop-command
invariant-loop-command g l = record {
  all : All IsCommand l.commands.items;
  counted : count_by is_gc l.commands.items ≡ l.gcs;
  few : l.gcs ≤ 64;
}
