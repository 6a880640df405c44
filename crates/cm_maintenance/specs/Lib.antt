pub mod Texts
pub mod Reporting
pub mod Trimming
pub mod Listing
pub mod Gathered
pub mod Laws
pub mod Report
