-- What the crates above may name: these modules pass on the lemmas that they need.
pub mod AtPlaces
pub mod ValidScripts
pub mod NextEvents
pub mod EventSteps
pub mod OwnEvents
pub mod SoundHeaps
pub mod Allocating
pub mod Reading
-- the lemmas themselves
mod Lists
mod Slots
mod Programs
mod Events
mod WellFormed
mod Outcomes
mod Termination
mod Progress
mod Order
mod Ranges
mod Equal
mod OneCommand
