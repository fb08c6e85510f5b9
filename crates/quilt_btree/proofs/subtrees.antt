-- What the pages below a page are.
pub mod Along
pub mod Density
pub mod Descending
pub mod Descents
pub mod Dividing
pub mod Heights
pub mod Holdings
pub mod Trees
pub mod Walks
pub mod Whole
