-- The order of events.
pub mod ScriptsInOrder
pub mod Determined
pub mod RunsAsRelation
