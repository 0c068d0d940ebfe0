pub mod NumberedLemmas
