-- What the commands that allocate nothing may change.
pub mod Parts
pub mod WordBounds
pub mod PairLists
pub mod Changes
