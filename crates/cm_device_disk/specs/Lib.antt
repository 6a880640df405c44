pub mod State
pub mod Calls
pub mod Runs
pub mod Image
pub mod DeviceDisk
pub mod HeldDisk
pub mod Noting
