pub mod Fitting
pub mod Forms
pub mod Items
pub mod Made
pub mod Pairs
pub mod Parsing
pub mod Spelling
pub mod Table
