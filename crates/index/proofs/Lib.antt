pub mod IndexLaws
pub mod OutcomeLaws
pub mod ReadLaws
pub mod OwnLaws
