pub mod Hash
pub mod Chains
