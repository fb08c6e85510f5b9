pub mod Due
pub mod Goings
pub mod Parts
