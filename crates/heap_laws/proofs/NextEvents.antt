-- For the crates above: what a thread does next, and histories that grow by an event. The statements stand where they
-- are proved.
pub use Rattle.heap_laws.proofs.Events.Causes.{next_parts, next_with_command, builds_for, opens_for, simple_for, allocating_refused, collects_next, next_done}
pub use Rattle.heap_laws.proofs.Events.Tasks.{next_alive, next_free-is}
pub use Rattle.heap_laws.proofs.Events.Appending.{Lawful-push, replay-push}
pub use Rattle.heap_laws.proofs.Termination.EventsLeft.{history_short, history_few}
