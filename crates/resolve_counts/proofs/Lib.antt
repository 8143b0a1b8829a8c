pub mod VisitLaws
pub mod RoomLaws
pub mod TallyLaws
