pub mod Answered
pub mod ByteLaws
pub mod DraftLaws
pub mod Pieces
pub mod Soundness
pub mod StoryLaws
pub mod Steps
pub mod Openings
