pub mod Characters
pub mod ClassNames
pub mod Forms
pub mod Judgement
pub mod Marks
pub mod Types
