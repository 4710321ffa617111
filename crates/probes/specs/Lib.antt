pub mod Entries
pub mod Binds
