pub mod HalfLaws
pub mod ChainLaws
pub mod GiveLaws
pub mod HoldLaws
pub mod LogLaws
pub mod SettledLaws
pub mod EndLaws
pub mod BuiltLaws
