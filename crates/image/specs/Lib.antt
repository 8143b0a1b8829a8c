pub mod Examples
pub mod Refusals
pub mod Inside
