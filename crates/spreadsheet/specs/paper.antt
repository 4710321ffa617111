-- Document 02's own definitions, and RFC 4180's as far as a table of rules needs it: what a reader must believe.
pub mod Quoting
pub mod Rows
pub mod Numerals
pub mod RowRules
pub mod Table
