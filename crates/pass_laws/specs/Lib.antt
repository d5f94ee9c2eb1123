pub mod Spread
pub mod Reached
pub mod NoRegions
pub mod PlainRecords
pub mod Laws
pub mod Examples
