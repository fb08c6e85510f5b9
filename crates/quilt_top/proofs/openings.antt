-- Opening a file, and making one.
pub mod Damages
pub mod Found
pub mod Lines
pub mod Making
pub mod Surveys
