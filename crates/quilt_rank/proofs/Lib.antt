pub mod Orders
pub mod Adding
pub mod Answered
pub mod Ranking
mod SmallParts
pub mod Fronts
pub mod Closes
pub mod Goings
