pub mod Labelled
pub mod Seen
