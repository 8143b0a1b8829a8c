pub mod Last
pub mod Settle
pub mod Counts
pub mod Events
pub mod Waiting
pub mod Classes
pub mod Logged
