pub mod Names
pub mod Workers
pub mod Finished
