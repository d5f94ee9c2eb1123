pub mod Flagged
pub mod Remaining
pub mod Wiped
pub mod Clean
pub mod Exits
pub mod Progress
pub mod Holding
