-- Document 02's own definitions: what a reader must believe.
pub mod Pools
pub mod Pooling
pub mod Households
