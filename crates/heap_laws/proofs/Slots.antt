-- The slots of an object and its words.
pub mod Spelled
pub mod Counted
