-- What a segment that comes or goes changes.
pub mod Additions
pub mod Changes
pub mod MergeSteps
pub mod Merges
pub mod Removals
