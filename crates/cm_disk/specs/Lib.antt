pub mod Disk
pub mod Calls
pub mod Moments
pub mod Medium
pub mod Chosen
pub mod Sim
pub mod Fuse
