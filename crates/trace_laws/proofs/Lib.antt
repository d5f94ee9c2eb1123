pub mod PinNames
pub mod Remaining
pub mod Kept
pub mod Moves
pub mod Closing
pub mod Ending
