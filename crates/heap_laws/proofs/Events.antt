-- What an event may be, and what it leaves as it was.
pub mod Appending
pub mod Causes
pub mod Tasks
pub mod Counted
pub mod CollectedThreads
pub mod OwnThread
pub mod ScriptSteps
pub mod OtherThreads
