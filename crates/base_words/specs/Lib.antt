pub mod Set
pub mod steps
pub mod laws
