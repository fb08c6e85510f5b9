-- Where a cursor stands, and its steps; what the leaf of a finger tells.
pub mod Fingers
pub mod Lowers
pub mod Stands
