-- Every event leaves a well-formed heap.
pub mod LivingValues
pub mod PagesStay
pub mod Threads
pub mod FieldWritten
pub mod RegionOpened
pub mod ObjectAdded
pub mod LargeAdded
pub mod Counting
pub mod Committed
pub mod Replayed
