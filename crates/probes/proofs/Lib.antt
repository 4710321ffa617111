pub mod Entering
pub mod VariableLaws
pub mod CodeLaws
