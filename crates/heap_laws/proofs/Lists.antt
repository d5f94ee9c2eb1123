-- Lists, and sums over them.
pub mod Places
pub mod Sums
