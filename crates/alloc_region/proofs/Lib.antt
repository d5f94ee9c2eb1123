pub mod Fresh
pub mod Wishes
