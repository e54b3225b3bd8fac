pub mod laws
pub mod steps
pub mod Cells
