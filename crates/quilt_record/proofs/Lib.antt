pub mod BlockKeys
pub mod Entries
pub mod KeyOrder
pub mod Names
pub mod Readers
pub mod Orders
