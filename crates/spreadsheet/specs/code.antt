-- What the code's answers stand for.
pub mod FieldSeen
pub mod RowSeen
pub mod NumberSeen
pub mod RuleSeen
