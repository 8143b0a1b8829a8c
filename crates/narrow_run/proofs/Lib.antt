pub mod RecordLaws
pub mod RunLaws
pub mod ListLaws
pub mod ReadLaws
