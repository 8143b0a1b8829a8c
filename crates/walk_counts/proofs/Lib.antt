pub mod KidLaws
pub mod PushLaws
pub mod TallyLaws
