pub mod Numbers
pub mod Asked
pub mod Made
pub mod Texts
pub mod Simulated
