pub mod PageLaws
pub mod DecimalLaws
pub mod LineLaws
