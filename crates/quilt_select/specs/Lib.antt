pub mod Clips
pub mod Descents
pub mod Regions
pub mod Shares
