pub mod Drawing
pub mod Rest
