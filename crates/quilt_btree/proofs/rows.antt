-- Children of a page: their places, and what is put in their stead.
pub mod Middles
pub mod NewKeys
pub mod Places
pub mod Splices
