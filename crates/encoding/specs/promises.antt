-- The words in which promises speak.
pub mod TooLong
