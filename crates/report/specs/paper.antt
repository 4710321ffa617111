-- Document 01's own definitions, in its order: what a reader must believe.
pub mod Line
pub mod LineAt
pub mod EventList
pub mod Operations
pub mod Units
