pub mod Handed
pub mod Circled
