pub mod Holding
pub mod Locks
pub mod Modes
pub mod Places
pub mod Taking
