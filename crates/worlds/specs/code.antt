-- What the code's structs and tables stand for: what contracts cite.
pub mod Over
pub mod Classes
pub mod Tables
pub mod Laid
pub mod Related
pub mod Made
pub mod Cuts
pub mod Discretion
pub mod Settled
pub mod Blocks
pub mod Citing
pub mod Valued
pub mod Conditions
