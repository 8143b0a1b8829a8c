pub mod Outcome
pub mod Own
pub mod Inside
