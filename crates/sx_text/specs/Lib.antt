pub mod Numbers
pub mod Words
pub mod Records
pub mod Reading
