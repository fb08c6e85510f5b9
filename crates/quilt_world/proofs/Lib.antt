pub mod AddedLaws
pub mod Front
pub mod PageLaws
pub mod ReadCounts
pub mod StopLaws
pub mod TextLaws
pub mod Told
