pub mod ByRow
pub mod Making
pub mod Validity
