pub mod Refusals
pub mod Texts
pub mod Commands
pub mod Prepare
pub mod Names
pub mod Machine
