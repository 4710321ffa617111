pub mod paper
pub mod promises
