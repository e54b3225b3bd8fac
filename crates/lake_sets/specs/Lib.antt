pub mod SetsAt
pub mod steps
pub mod laws
