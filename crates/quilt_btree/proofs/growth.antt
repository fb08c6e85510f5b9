-- Records that are put in.
pub mod Below
pub mod Fills
pub mod Finding
pub mod InnerGrowth
pub mod KeptPages
pub mod LeafGrowth
pub mod NewChild
pub mod NewLeaf
pub mod OneRecord
pub mod TreeGrowth
pub mod UnderGrowth
