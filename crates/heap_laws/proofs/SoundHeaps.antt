-- For the crates above: what holds of the heap that a lawful history of a valid program leaves. The statements stand
-- where they are proved.
-- the start, each command, each event and each history
pub use Rattle.heap_laws.proofs.WellFormed.Threads.{start-well_formed}
pub use Rattle.heap_laws.proofs.WellFormed.Replayed.{outcome-kept, after-well_formed, replay-well_formed}
-- the threads at the start, the values in cells, and the pages on which regions are open
pub use Rattle.heap_laws.proofs.WellFormed.Threads.{start_thread, start_free, open_page_used, open_run_used}
pub use Rattle.heap_laws.proofs.WellFormed.LivingValues.{cell_living}
pub use Rattle.heap_laws.proofs.Ranges.ObjectCount.{start_thread_is, commits_few, commits_within}
pub use Rattle.heap_laws.proofs.Outcomes.Parts.{with_field-kind}
-- the policy's numbers, and the words of a generation
pub use Rattle.heap_laws.proofs.Ranges.PolicyNumbers.{allocated_most, words_few, replay-numbers, pass-numbers}
pub use Rattle.heap_laws.proofs.Ranges.GenerationWords.{kept_in, kept_words, committed-allocated, outcome-allocated, pass-allocated}
pub use Rattle.heap_laws.proofs.Ranges.KeptWords.{kept-listed}
