pub mod HolderLemmas
pub mod LockLemmas
pub mod PlaceLemmas
pub mod TakeLemmas
