pub mod Asking
pub mod steps
pub mod laws
