pub mod Parcels
pub mod Turns
