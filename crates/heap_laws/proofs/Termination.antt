-- Every history ends.
pub mod EventsLeft
