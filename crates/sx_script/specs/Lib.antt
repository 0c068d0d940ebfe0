pub mod Parsers
pub mod Plans
pub mod Printing
pub mod Reading
pub mod Scripts
pub mod Sound
