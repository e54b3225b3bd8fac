-- Laws of the definitions beside this file.
pub mod Forests
pub mod Turns
pub mod Passes
pub mod Lanes
