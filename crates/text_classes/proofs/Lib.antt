pub mod HashLaws
pub mod ChainLaws
pub mod NameLaws
pub mod DistinctLaws
pub mod EnterLaws
pub mod SortLaws
