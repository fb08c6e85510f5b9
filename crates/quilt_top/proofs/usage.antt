-- The words of the command line.
pub mod Commands
pub mod Digits
pub mod Looks
pub mod Parses
pub mod Rows
pub mod Scans
pub mod Walks
