pub mod NewFile
pub mod Making
pub mod Standing
pub mod Opened
pub mod Laws
