pub mod Firsts
pub mod Opened
pub mod Ranks
