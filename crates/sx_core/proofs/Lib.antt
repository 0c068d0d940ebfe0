mod AdoptLemmas
mod AttemptLemmas
mod ClientLemmas
mod ClientListLemmas
mod CloseLemmas
mod HolderLemmas
mod LivingLemmas
mod LockLemmas
mod MakeLemmas
mod ManagerLemmas
mod ReadyLemmas
mod ReplyLemmas
mod ScanLemmas
mod ScanTurnLemmas
mod StartLemmas
mod SwitchLemmas
mod SwitchedLemmas
mod TableLemmas
mod TurnLemmas
mod UndoLemmas
mod ViewLemmas
mod WriteLemmas
pub mod FetchLemmas
pub mod FreshLemmas
pub mod StandLaws
pub mod StoredLemmas
