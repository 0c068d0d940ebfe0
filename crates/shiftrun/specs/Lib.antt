pub mod Endings
pub mod Holding
pub mod Lines
pub mod Outputs
pub mod ReportRuns
pub mod Runs
pub mod Statuses
