-- What the code's parts stand for.
pub mod Written
pub mod Made
