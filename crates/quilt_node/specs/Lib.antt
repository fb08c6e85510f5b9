pub mod Edits
pub mod KeysIn
pub mod Nodes
pub mod Pages
pub mod Tree
