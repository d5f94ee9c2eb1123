-- What one command does.
pub mod Outcome
pub mod Put
pub mod Cons
pub mod Names
