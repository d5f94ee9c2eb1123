pub mod Starts
pub mod InRoom
