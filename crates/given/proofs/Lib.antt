pub mod BindingLaws
pub mod EntryLaws
pub mod ResolutionLaws
pub mod ReadLaws
pub mod AllLaws
