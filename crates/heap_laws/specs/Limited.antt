-- Programs within the limits: what the laws of heaps and histories need of a program.
use Rattle.std.specs.Prelude.{◌≤◌, length, All}
use Rattle.heap_terms.specs.declared.limits.TheConstants.{MOST_PAGES, MOST_THREADS}
use Rattle.heap_terms.specs.declared.programs.Program.{Program}
use Rattle.heap_terms.specs.Valid.{IsInRange}

pub record IsLimited (p : Program) : Type 0 where
  pub pages_most : p.pages ≤ MOST_PAGES
  pub threads_most : length p.threads ≤ MOST_THREADS
  pub commands : All (All IsInRange) p.threads
