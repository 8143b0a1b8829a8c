pub mod Tables
pub mod Inside
