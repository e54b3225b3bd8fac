pub mod steps
pub mod laws
