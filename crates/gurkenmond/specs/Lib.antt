pub mod Answers
pub mod Calls
pub mod steps
pub mod laws
