pub mod Stepping
pub mod Opening
pub mod CallList
