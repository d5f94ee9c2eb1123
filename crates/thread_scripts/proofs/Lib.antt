mod ClosedThreads
pub mod Ends
mod Seated
