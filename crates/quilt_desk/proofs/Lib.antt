pub mod CrashLaws
pub mod DeskLaws
pub mod ReadLaws
