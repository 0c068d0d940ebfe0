pub mod AgainLaws
pub mod OnlyLaws
pub mod PartLaws
pub mod QuoteLaws
pub mod TestLaws
