pub mod Depth
pub mod Outcome
pub mod Inside
