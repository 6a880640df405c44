pub mod Flags
pub mod Subject
pub mod Constants
pub mod Itself
pub mod Members
pub mod Attributes
