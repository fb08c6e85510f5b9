-- What a session stands for, and what calls leave of it.
pub mod Causes
pub mod ChangeSteps
pub mod Edited
pub mod Going
pub mod HeldLayers
pub mod Holding
pub mod Keeping
pub mod Moving
pub mod Renewed
pub mod ZeroPage
pub mod Catalogs
