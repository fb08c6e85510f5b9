pub mod Cutting
pub mod Progress
pub mod Reading
pub mod Shortening
pub mod Spelled
pub mod Taking
pub mod Trials
