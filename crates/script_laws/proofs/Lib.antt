mod Lines
mod FieldTexts
mod Commands
mod Runs
mod Scripts
