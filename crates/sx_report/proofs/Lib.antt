mod LineLaws
mod RangeLaws
mod ReportLaws
mod TableLaws
