-- Programs that a script can be read as.
pub mod ScriptCommands
pub mod Limits
