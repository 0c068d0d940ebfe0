pub mod DecimalLaws
pub mod FieldLaws
pub mod NumberLaws
pub mod PlainLaws
pub mod QuoteLaws
pub mod ReadBackLaws
pub mod RoundLaws
pub mod WordLaws
