-- How many objects there are, and the numbers in events.
pub mod ObjectCount
pub mod PlainPages
pub mod PolicyNumbers
pub mod GenerationWords
pub mod KeptWords
pub mod PlainEvents
pub mod InhibitsFew
pub mod FinalizersFew
