pub mod Digits
pub mod Stars
pub mod Lines
pub mod Rows
pub mod Turning
pub mod Statements
pub mod Sums
pub mod Scheduled
pub mod Script
pub mod Fitting
pub mod Allowed
pub mod Validity
pub mod Spelled
pub mod Numbered
pub mod Plain
mod Printed
