mod Rows
mod Events
