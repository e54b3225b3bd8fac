-- Laws of the definitions beside this file.
pub mod Begins
pub mod Fills
pub mod Edges
pub mod Alts
pub mod Told
