pub mod Fault
pub mod Texts
pub mod Least
pub mod Kept
pub mod Answer
pub mod Sizes
pub mod Keeps
