-- What calls do to the pages of a store.
pub mod Held
pub mod Leaves
pub mod Looks
pub mod Moves
pub mod Pairs
pub mod Room
pub mod Writes
