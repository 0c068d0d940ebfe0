pub mod EndLines
pub mod EntryLines
pub mod LogLines
pub mod Reports
pub mod TableLines
pub mod Words
