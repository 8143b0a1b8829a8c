pub mod ExportLaws
pub mod ToldLaws
