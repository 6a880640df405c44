pub mod Ahead
pub mod Handover
pub mod Carrying
pub mod Folding
pub mod Following
pub mod Laws
