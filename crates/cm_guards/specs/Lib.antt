pub mod Guards
pub mod Plans
pub mod Gates
pub mod Calls
pub mod Stages
pub mod Laws
