pub mod Asked
pub mod Numbers
pub mod Words
