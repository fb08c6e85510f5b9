pub mod Combining
pub mod Fronts
