pub mod Progress
pub mod Standing
