pub mod Page
pub mod Decimal
pub mod Little
