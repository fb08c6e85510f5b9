pub mod Layers
pub mod Pairs
pub mod Runs
