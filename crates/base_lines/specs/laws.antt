-- Laws of the definitions beside this file.
pub mod Lines
pub mod Counting
