pub mod Usage
pub mod Unused
pub mod Statistics
