pub mod SurveyLaws
pub mod WalkTextLaws
pub mod WholeLaws
pub mod BoundLaws
pub mod PrintedLaws
