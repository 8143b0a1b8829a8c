pub mod Chains
pub mod Settling
pub mod Entries
