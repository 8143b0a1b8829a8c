pub mod Bindings
pub mod Resolutions
pub mod Given
pub mod Inside
