pub mod Columns
pub mod Fields
pub mod Forms
pub mod Lines
pub mod Printing
