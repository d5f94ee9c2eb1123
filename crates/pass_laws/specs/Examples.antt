-- Passes worked out by hand, each from a history to the records of its collections.
pub mod Making
pub mod Neighbours
pub mod Pinned
pub mod Exactness
pub mod Exhaustion
pub mod WeakTables
pub mod OldGarbage
pub mod Finalizers
pub mod ThreeThreads
pub mod Ages
