pub mod Laying
pub mod Kinds
pub mod Heads
pub mod Files
