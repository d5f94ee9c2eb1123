pub mod Gaps
pub mod Items
pub mod Walking
pub mod Viewing
