pub mod Chains
pub mod Placing
pub mod Tightening
