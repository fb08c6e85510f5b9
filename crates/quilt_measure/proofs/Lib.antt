pub mod Parts
pub mod Ranges
pub mod Rounds
pub mod Sides
pub mod Sums
