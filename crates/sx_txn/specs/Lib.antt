pub mod Answers
pub mod Homes
pub mod Kept
pub mod Lives
pub mod Managed
pub mod Patches
pub mod Turns
pub mod Writes
