pub mod Laws
pub mod states
pub mod answers
pub mod plans
pub mod questions
pub mod layers
