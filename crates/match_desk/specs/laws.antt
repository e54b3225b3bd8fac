-- Laws of the definitions beside this file.
pub mod Parts
pub mod Desks
pub mod Learns
