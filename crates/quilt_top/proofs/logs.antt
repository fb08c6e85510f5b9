-- Logs of events, and what they put and write.
pub mod Events
pub mod Prefixes
pub mod Said
pub mod Prompts
pub mod Written
pub mod Writes
