pub mod Flags
pub mod Held
pub mod Swept
pub mod Wiping
pub mod Sweeping
