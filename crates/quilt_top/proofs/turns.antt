-- Turns of the loops that answer items.
pub mod Applying
pub mod Between
pub mod Exits
pub mod Fine
pub mod Outcomes
pub mod Places
pub mod Runs
pub mod Trials
pub mod Turns
