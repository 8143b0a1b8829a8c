pub mod RunLaws
pub mod EntryLaws
pub mod PassLaws
pub mod PartLaws
