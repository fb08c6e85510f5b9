-- Commands as the definition has them, by the tests that they pass.
pub mod Answered
pub mod Asked
pub mod Asks
pub mod Commanded
pub mod FirstTests
pub mod Orderly
pub mod Outcomes
pub mod Parts
pub mod PastQuota
pub mod Placing
pub mod Prefixes
pub mod Serves
pub mod TextLaws
pub mod WholeItems
