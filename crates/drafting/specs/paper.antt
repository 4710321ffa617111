-- Document 02's own definitions: what a reader must believe.
pub mod Importing
