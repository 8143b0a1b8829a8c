pub mod MergeLaws
pub mod SortLaws
