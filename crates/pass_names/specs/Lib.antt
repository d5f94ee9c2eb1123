pub mod Labelled
pub mod Places
pub mod Room
pub mod Named
pub mod Noted
