pub mod Shown
pub mod Itself
