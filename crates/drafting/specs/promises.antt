-- The words in which promises speak.
pub mod RowByRow
pub mod InQuotes
