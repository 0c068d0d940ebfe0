mod HoldLaws
pub mod CountLaws
pub mod EndLaws
pub mod LeadLaws
pub mod LineLaws
pub mod MakeLaws
pub mod PaceLaws
pub mod PlaceLaws
pub mod ReportLaws
pub mod RollLaws
pub mod StandLaws
pub mod StartLaws
pub mod TransformLaws
