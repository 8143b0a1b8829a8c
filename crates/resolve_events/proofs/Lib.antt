pub mod PassLaws
pub mod TurnLaws
pub mod RoundLaws
pub mod HeldLaws
pub mod WhenLaws
pub mod LoopLaws
pub mod VisitLaws
