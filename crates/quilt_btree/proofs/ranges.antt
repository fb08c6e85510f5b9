-- The records of a range, leaf by leaf.
pub mod Parts
pub mod Ranges
pub mod Rests
pub mod Spans
