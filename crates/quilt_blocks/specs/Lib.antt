pub mod Adding
pub mod Cutting
pub mod Listing
pub mod Mosaic
pub mod Painting
pub mod Raster
pub mod Walk
