pub mod Order
pub mod Fitting
pub mod Orderly
pub mod Measure
pub mod JournalLaws
pub mod Laws
pub mod Examples
