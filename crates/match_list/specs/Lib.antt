pub mod Nodes
pub mod steps
