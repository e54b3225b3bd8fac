-- Laws of the definitions beside this file.
pub mod Ranges
pub mod Marks
pub mod Sweeps
