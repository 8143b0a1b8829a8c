pub mod DefinitionLaws
pub mod ScopeLaws
