pub mod CalmViews
pub mod Crash
pub mod DeskViews
pub mod PageStates
pub mod Reads
pub mod Sources
pub mod Whole
