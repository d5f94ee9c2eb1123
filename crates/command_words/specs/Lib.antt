pub mod Forms
pub mod Matching
