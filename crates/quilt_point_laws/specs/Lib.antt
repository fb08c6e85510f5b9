pub mod Swapping
pub mod Local
pub mod Climbing
pub mod Spreading
pub mod Plans
pub mod Laws
pub mod Growing
