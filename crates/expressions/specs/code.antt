-- What the code's structs and tables stand for: what contracts cite.
pub mod Coded
pub mod Listed
pub mod Reached
pub mod Undecided
pub mod Influences
pub mod Joined
pub mod Sight
pub mod Evident
pub mod Codes
pub mod Told
pub mod Counted
pub mod Slots
