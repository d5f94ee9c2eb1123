pub mod Rooted
pub mod Noted
pub mod Traced
pub mod Ends
