pub mod Intermediate
pub mod Proper
pub mod steps
