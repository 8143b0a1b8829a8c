pub mod AddsLaws
pub mod GuardLaws
