-- Plan bytes as documents 01 and 02 have them: what a reader must believe.
pub mod Encoded
pub mod Placed
