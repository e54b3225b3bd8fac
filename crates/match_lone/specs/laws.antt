-- Laws of the definitions beside this file.
pub mod Lone
pub mod Lanes
