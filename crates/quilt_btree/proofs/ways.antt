-- The way down to a leaf, and what its pages say.
pub mod Damage
pub mod Floors
pub mod Forks
pub mod Heights
pub mod Leaves
pub mod Looked
pub mod Steps
pub mod Turns
pub mod Ways
