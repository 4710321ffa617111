pub mod Private
pub mod Partitioned
pub mod OpenNamed
pub mod KnownBy
pub mod Weaker
pub mod Pooled
pub mod NoHousehold
