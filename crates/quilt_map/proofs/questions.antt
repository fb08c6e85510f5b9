-- What commands that ask are answered, and the pages that they read.
pub mod Bounded
pub mod Costs
pub mod Counts
pub mod Measures
pub mod Selects
pub mod ShownLines
pub mod Warming
