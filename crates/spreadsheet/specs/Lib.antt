pub mod paper
pub mod code
pub mod promises
