pub mod Ready
pub mod Sections
pub mod Collects
