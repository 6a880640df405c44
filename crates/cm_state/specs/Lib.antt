pub mod State
pub mod Step
pub mod Fold
pub mod Entries
pub mod Stands
pub mod Laws
