-- What commands change, as plans of the work.
pub mod Amends
pub mod Copies
pub mod LinePlans
pub mod NewLayers
pub mod NewLines
pub mod NewPoints
pub mod PaintPlans
pub mod Planned
pub mod Plans
pub mod PointPlans
pub mod Uniforms
