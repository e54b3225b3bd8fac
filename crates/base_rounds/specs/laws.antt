-- Laws of the definitions beside this file.
pub mod Fix
pub mod Cells
pub mod Flow
pub mod Pair
pub mod Sys
