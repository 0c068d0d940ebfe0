pub mod Entries
pub mod Lending
pub mod NamedTables
pub mod Relations
pub mod Walks
