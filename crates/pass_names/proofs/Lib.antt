pub mod Ascending
pub mod Placed
pub mod Reading
pub mod Picking
pub mod Ranges
pub mod ByName
pub mod Broken
