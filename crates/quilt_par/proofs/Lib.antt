pub mod Corners
pub mod Moving
pub mod Quadrants
