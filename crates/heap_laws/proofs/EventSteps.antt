-- For the crates above: what one event changes of the threads, and that each event leaves fewer to come. The statements
-- stand where they are proved.
pub use Rattle.heap_laws.proofs.Events.Causes.{Opens, opens_from, Collects, collects_from, alive_thread, collects_next, never_collects_command}
pub use Rattle.heap_laws.proofs.Events.Tasks.{IsSameTask, next_ended, next_free-is}
pub use Rattle.heap_laws.proofs.Events.OtherThreads.{IsLeft, others_left, is_collection}
pub use Rattle.heap_laws.proofs.Events.CollectedThreads.{IsCollected, collected_threads}
pub use Rattle.heap_laws.proofs.Termination.EventsLeft.{opened_builds, all_left_falls}
pub use Rattle.heap_laws.proofs.WellFormed.Replayed.{event-kept, history-kept}
-- a sum over threads of which one changes
pub use Rattle.heap_laws.proofs.Lists.Sums.{sum_change}
-- what a thread may do next is one event
pub use Rattle.heap_laws.proofs.Order.Determined.{one_next}
-- a valid program is within the limits
pub use Rattle.heap_laws.proofs.Programs.Limits.{limited}
