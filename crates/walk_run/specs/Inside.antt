pub mod Effects
pub mod Items
pub mod Run
