pub mod BufferLaws
pub mod CallLaws
pub mod PairLaws
pub mod WordLaws
pub mod FillLaws
pub mod EntryLaws
pub mod HalfLaws
