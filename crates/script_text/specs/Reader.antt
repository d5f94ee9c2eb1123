-- The state of the reader, as the definition of reading has it, and what its methods answer.
use Rattle.std.specs.Prelude.{◌≡◌, ◌≤◌, length, sum_by, count_by}
use Rattle.heap_terms.specs.ScriptReading.{SoFar}
use Rattle.heap_terms.specs.declared.limits.TheConstants.{MOST_THREADS, MOST_COMMANDS, MOST_GCS, MOST_TURNS}
use Rattle.heap_terms.specs.Valid.{is_gc}
use Rattle.script_text.specs.declared.reader.Reader.TheInside.{Inside}
use Rattle.script_text.specs.Words.{place_of}

abbrev pub view_of : Inside → SoFar
view_of r = record { place = place_of r.place; program = record { pages = r.pages; auto = r.auto; threads = r.threads.items; schedule = r.schedule.items } }

-- the counts are those of the threads, and no limit is passed
pub record Counts (r : Inside) : Type 0 where
  pub threads : length r.threads.items ≤ MOST_THREADS
  pub commands : r.commands ≡ sum_by length r.threads.items
  pub commands_most : r.commands ≤ MOST_COMMANDS
  pub gcs : r.gcs ≡ sum_by (count_by is_gc) r.threads.items
  pub gcs_most : r.gcs ≤ MOST_GCS
  pub schedule : length r.schedule.items ≤ MOST_TURNS
