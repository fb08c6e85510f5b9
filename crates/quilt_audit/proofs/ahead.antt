-- What has to come behind records that begin those of a map.
pub mod Ahead
pub mod Next
pub mod PointAhead
pub mod RegionAhead
