pub mod Steps
pub mod Runs
pub mod Moves
pub mod Laws
