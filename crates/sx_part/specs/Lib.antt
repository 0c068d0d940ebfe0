pub mod PartImages
pub mod Stamping
