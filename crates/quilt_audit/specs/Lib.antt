pub mod Bits
pub mod Checking
pub mod Covers
pub mod Points
pub mod Regions
pub mod Runs
pub mod Surveys
pub mod Walking
