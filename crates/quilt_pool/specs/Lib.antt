pub mod Dirt
pub mod Entries
pub mod Frames
pub mod Keeping
pub mod Lending
pub mod Views
pub mod Passing
