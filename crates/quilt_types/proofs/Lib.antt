pub mod Bits
pub mod CodeLaws
pub mod CodeTables
pub mod Growing
pub mod Lists
pub mod Members
pub mod Truths
