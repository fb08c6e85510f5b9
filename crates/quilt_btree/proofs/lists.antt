-- Ascending lists of records and keys, and rows of children.
pub mod Ascents
pub mod Counts
pub mod Cuts
pub mod Fitting
pub mod Lists
pub mod Rising
pub mod RisingApart
pub mod Rows
pub mod Separators
pub mod Withouts
