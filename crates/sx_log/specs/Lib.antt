pub mod Committed
pub mod Copies
pub mod Images
pub mod Rows
pub mod State
pub mod Undoing
