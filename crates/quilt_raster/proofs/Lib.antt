pub mod Bytes
pub mod Cells
pub mod Lanes
pub mod Places
pub mod Points
pub mod Rows
pub mod Tiles
pub mod Written
