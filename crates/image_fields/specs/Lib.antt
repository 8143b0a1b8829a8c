pub mod Bits
pub mod Image
pub mod Inside
