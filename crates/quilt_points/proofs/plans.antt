-- What points that come or go change.
pub mod Adds
pub mod Dels
pub mod Deltas
pub mod Parts
pub mod Plans
pub mod Puts
pub mod Scatters
