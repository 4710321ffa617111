-- What the code's structs and tables stand for: what contracts cite.
pub mod Decoded
pub mod Readers
pub mod Passes
pub mod PlanPasses
pub mod CasePasses
pub mod CaseRead
pub mod CaseNamed
pub mod PlanRead
pub mod Check
pub mod Named
pub mod Crossings
pub mod Elections
