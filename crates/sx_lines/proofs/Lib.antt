pub mod AgainLaws
pub mod ColumnLaws
pub mod DraftLaws
pub mod FieldLaws
pub mod NameLaws
pub mod PaceLaws
pub mod PartLaws
pub mod SpecLaws
