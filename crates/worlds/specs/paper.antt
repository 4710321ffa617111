-- Document 01's own definitions, in its order: what a reader must believe.
pub mod Active
pub mod World
pub mod View
pub mod Events
