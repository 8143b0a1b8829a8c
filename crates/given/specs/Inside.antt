pub mod Entry
pub mod Resolved
