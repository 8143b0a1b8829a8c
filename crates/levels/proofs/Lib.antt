pub mod DepthLaws
pub mod LoopLaws
pub mod OutcomeLaws
