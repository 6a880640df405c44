pub mod Images
pub mod Session
pub mod Moves
pub mod Storing
pub mod Laws
pub mod Committing
pub mod Opening
