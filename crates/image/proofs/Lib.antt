pub mod CallLaws
pub mod CheckLaws
pub mod AcceptedLaws
pub mod OrderedLaws
pub mod ExampleLaws
pub mod WholeLaws
pub mod RoleLaws
pub mod PathLaws
