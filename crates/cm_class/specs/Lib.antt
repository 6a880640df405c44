pub mod Spelling
pub mod Shape
pub mod Reading
pub mod Names
