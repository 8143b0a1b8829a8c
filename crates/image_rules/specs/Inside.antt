pub mod Machine
pub mod Whole
