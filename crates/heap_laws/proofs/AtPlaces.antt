-- For the crates above: what stands at a place of a list after a write or a push, and the value of an option that is
-- there. The statements stand where they are proved.
pub use Rattle.heap_laws.proofs.Lists.Places.{set_cases, push_cases, IfSome-at, IfSome-from, IsSome-value, IsSome-from}
