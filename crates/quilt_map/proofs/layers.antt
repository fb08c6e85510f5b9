-- What commands that change or make a layer are answered.
pub mod Derives
pub mod Fillings
pub mod LineAnswers
pub mod Overlays
pub mod PointAnswers
pub mod Rasters
pub mod Scatters
