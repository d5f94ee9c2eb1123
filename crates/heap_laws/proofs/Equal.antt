-- Equality is equality of data.
pub mod Commands
pub mod Records
