pub mod Bits
pub mod Crossings
pub mod Edges
