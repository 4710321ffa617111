-- Document 01's own definitions, in its order: what a reader must believe.
pub mod Rules
pub mod Nodes
pub mod Bindings
pub mod Variables
pub mod Influence
