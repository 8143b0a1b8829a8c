pub mod TableLaws
pub mod FieldLaws
pub mod ImageLaws
