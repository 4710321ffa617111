-- What is promised: the statements of theorems, and what they are about.
pub mod Rfc
