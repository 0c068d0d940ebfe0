pub mod AgainLaws
pub mod KeepLaws
pub mod KnownLaws
pub mod PlanLaws
pub mod ReadLaws
pub mod ScriptLaws
