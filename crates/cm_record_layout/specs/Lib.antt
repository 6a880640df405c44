pub mod Packing
pub mod Layout
pub mod Tails
