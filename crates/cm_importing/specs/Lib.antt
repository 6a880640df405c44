pub mod Comparing
pub mod Feeds
pub mod Groups
pub mod Outcomes
pub mod Runs
pub mod Unloading
