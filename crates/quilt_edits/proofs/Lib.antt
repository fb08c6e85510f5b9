pub mod Lists
pub mod Keys
pub mod Ascents
pub mod Lookups
pub mod Lasts
