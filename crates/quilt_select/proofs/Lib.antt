pub mod Touching
pub mod Gathering
pub mod Filters
pub mod Sharing
pub mod Descending
pub mod Crossing
pub mod Clipping
pub mod Regions
