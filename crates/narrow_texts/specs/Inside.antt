pub mod Chains
pub mod Numbers
pub mod Predicates
pub mod Rows
pub mod Texts
