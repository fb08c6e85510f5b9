-- The facts of a layer, and their records.
pub mod Decoding
pub mod FactKeys
pub mod FactMembers
pub mod LayerAlone
pub mod OneMap
pub mod SameFacts
