pub mod Fillers
pub mod Walks
pub mod Laws
