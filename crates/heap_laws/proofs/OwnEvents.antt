-- For the crates above: what an event changes of its own thread. The statement stands where it is proved.
pub use Rattle.heap_laws.proofs.Events.OwnThread.{HasMoved, moves}
