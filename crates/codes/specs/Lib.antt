pub mod Inside
pub mod Refusals
