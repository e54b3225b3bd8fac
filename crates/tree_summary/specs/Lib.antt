pub mod Summary
pub mod Outermost
pub mod Adding
pub mod steps
pub mod laws
