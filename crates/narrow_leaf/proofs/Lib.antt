pub mod CalleeLaws
pub mod ToldLaws
