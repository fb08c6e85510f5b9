pub mod Calls
pub mod Memory
pub mod Stops
pub mod Store
