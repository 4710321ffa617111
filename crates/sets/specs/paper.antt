-- Document 01's own definitions: what a reader must believe.
pub mod Sets
