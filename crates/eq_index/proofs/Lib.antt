mod Changes
pub mod MadeTables
