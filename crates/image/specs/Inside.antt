pub mod Accepted
pub mod Broken
