pub mod Callees
pub mod Told
