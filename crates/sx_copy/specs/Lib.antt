pub mod Changes
pub mod CopyLists
pub mod FreshTables
pub mod Readings
