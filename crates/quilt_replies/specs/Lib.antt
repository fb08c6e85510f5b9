pub mod Answers
pub mod Bodies
pub mod Runs
pub mod States
