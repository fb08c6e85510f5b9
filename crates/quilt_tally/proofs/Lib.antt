pub mod Few
pub mod Joining
pub mod Quarters
pub mod Room
