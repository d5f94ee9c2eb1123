pub mod Conses
pub mod Hinted
pub mod HitStarts
pub mod Pinning
pub mod Hits
pub mod Laws
