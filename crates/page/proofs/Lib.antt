pub mod ZeroLaws
pub mod PageLaws
pub mod DecimalLaws
