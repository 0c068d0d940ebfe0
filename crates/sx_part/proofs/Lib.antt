pub mod PartLemmas
pub mod SplitLemmas
