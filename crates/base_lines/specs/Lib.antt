pub mod Lines
pub mod steps
pub mod laws
