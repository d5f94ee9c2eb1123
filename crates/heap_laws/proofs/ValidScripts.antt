-- For the crates above: what is known of the commands of a valid program. The statements stand where they are proved.
pub use Rattle.heap_laws.proofs.Programs.ScriptCommands.{script_place, script_command}
