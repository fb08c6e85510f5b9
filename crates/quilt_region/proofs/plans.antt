-- What a plan of a region is.
pub mod KnownPlans
pub mod LayerPlans
pub mod QuarterPlans
pub mod Quarters
pub mod RegionLaws
