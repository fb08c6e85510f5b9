pub mod Added
pub mod Causes
pub mod Disk
pub mod Doors
pub mod Home
pub mod PageBytes
pub mod Stops
pub mod Tale
