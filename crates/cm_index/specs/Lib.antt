pub mod Living
pub mod Marks
pub mod Blocks
pub mod Index
pub mod Sought
pub mod Sweep
pub mod IndexedRows
