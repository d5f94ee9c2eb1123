use Rattle.page_table.specs.Unpacked.{unpacked_all}
use Rattle.page_table.proofs.RunSearch.{IsSearched}
use Rattle.page_table.proofs.table.lowest_run.Given as goal

abbrev pub invariant-loop-p : goal.invariant-loop-p
invariant-loop-p l = IsSearched (unpacked_all l.entries) l.k l.start l.p
