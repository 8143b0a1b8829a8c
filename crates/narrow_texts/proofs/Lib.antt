pub mod RowLaws
pub mod TableLaws
pub mod NumberLaws
pub mod PathLaws
pub mod PredicateLaws
pub mod NameLaws
pub mod ChainLaws
