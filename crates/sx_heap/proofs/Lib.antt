pub mod EntryLemmas
pub mod MadeLemmas
pub mod NameLemmas
pub mod RowLemmas
pub mod SeenLemmas
pub mod TurnLemmas
pub mod WalkLemmas
