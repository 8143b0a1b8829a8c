pub mod Pairs
pub mod Inside
