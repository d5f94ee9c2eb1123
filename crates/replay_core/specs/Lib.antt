pub mod MachineView
pub mod MachineSound
pub mod Stepping
pub mod Runs
