pub mod Text
pub mod Listing
pub mod Shown
pub mod Rooms
