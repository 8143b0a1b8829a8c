pub mod EndLaws
pub mod TotalLaws
pub mod RunLaws
pub mod OutcomeLaws
pub mod FitLaws
pub mod RunningLaws
pub mod SoundLaws
