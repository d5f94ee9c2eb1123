-- For the crates above: what a commit and an opening make of a heap. The statements stand where they are proved.
pub use Rattle.heap_laws.proofs.WellFormed.PagesStay.{size_least, size_even, small_most, small_needs, needs_two, needs_least, needs_enough}
-- the fill of a page
pub use Rattle.heap_laws.proofs.WellFormed.ObjectAdded.{entry_fill}
-- the page on which a small object goes, and the heap after its commit
pub use Rattle.heap_laws.proofs.WellFormed.Committed.{HasPage, has_page, room_page, place_small, pages_small, pages_large, large_run, goes_into, new_object, heap_with, initial_kind, initial_payload, initial_living, initial_shape}
-- the run into which a large object goes
pub use Rattle.heap_laws.proofs.WellFormed.LargeAdded.{HasRun, has_run, IsFilledRun, filled_run, needs_just, open_page_same}
-- the pages after a run of them was opened
pub use Rattle.heap_laws.proofs.WellFormed.RegionOpened.{run_length, run_entry, run_cases, opens_run, thread_with_run}
-- what an event leaves of the other threads and their regions, and what is counted of a commit
pub use Rattle.heap_laws.proofs.Events.OtherThreads.{HasSameEntries, IsLeft, is_collection, opened_entries, others_left}
pub use Rattle.heap_laws.proofs.Events.Tasks.{IsSameTask}
pub use Rattle.heap_laws.proofs.Programs.Limits.{limited}
pub use Rattle.heap_laws.proofs.WellFormed.Counting.{counting-off}
