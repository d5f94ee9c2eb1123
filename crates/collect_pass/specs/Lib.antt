pub mod Evacuated
pub mod Pass
pub mod Room
pub mod Tracing
pub mod Settling
