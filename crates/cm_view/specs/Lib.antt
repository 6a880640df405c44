pub mod Taking
pub mod Finding
pub mod Walking
pub mod Listing
pub mod Exactness
pub mod Loaders
pub mod Views
