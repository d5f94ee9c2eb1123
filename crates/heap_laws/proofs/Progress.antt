-- While a thread has not ended some event may come next.
pub mod NextEvent
pub mod Completion
