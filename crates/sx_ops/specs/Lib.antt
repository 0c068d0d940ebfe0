pub mod Checks
pub mod Disagreements
pub mod Operators
pub mod Targets
