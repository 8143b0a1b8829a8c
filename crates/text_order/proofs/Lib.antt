pub mod CompareLaws
pub mod RisingLaws
