pub mod Laws
pub mod Turning
pub mod Asking
pub mod Insides
pub mod Many
pub mod Whole
