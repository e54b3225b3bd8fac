-- Laws of the definitions beside this file.
pub mod Modes
pub mod Parts
pub mod Spots
