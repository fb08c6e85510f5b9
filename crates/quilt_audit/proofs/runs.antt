-- The steps of a run of one layer's records.
pub mod FourLeaves
pub mod Laid
pub mod PointRuns
pub mod PointSteps
pub mod PointWhole
pub mod RegionRuns
pub mod Runs
