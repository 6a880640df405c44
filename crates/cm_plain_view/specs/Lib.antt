pub mod Loaders
pub mod Views
pub mod Opening
pub mod Walks
