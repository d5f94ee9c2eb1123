pub mod Noting
pub mod Scanning
pub mod Fields
pub mod Older
pub mod Clear
