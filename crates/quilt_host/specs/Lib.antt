pub mod Acts
pub mod Bytes
pub mod Calls
pub mod Story
pub mod Systems
pub mod Worlds
pub mod Paging
pub mod Tales
