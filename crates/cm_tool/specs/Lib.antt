pub mod Answers
pub mod Runs
pub mod Serving
pub mod Applied
pub mod Ahead
pub mod Texts
pub mod Replies
