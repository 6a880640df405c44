pub mod Space
pub mod Ownership
pub mod Adopting
pub mod Tightening
pub mod Laws
