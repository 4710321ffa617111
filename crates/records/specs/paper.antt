-- Document 01's own definitions, in its order: what a reader must believe.
pub mod Fields
pub mod Plan
pub mod Case
