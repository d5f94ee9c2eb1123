pub mod Places
pub mod Rewriting
pub mod Breaking
pub mod Tables
pub mod Culling
pub mod Readying
