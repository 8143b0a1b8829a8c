pub mod Rules
pub mod Inside
