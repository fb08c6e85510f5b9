pub mod Buffers
pub mod Filling
pub mod Reaching
