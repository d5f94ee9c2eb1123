pub mod Lists
pub mod Room
pub mod Standing
pub mod Sweeping
