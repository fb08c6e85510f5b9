-- Records that are taken out.
pub mod ChildRebalances
pub mod Choices
pub mod Drains
pub mod Drops
pub mod InnerRebalances
pub mod LeafRebalances
pub mod LeafRemovals
pub mod Removals
pub mod Takings
pub mod TreeRemovals
pub mod Underfulls
