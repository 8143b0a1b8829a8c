pub mod Outcome
pub mod Running
pub mod Sound
pub mod Inside
