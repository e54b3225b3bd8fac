-- Laws of the definitions beside this file.
pub mod Tree
pub mod Places
pub mod Names
pub mod Numbers
pub mod Heads
pub mod Closes
pub mod Good
pub mod Only
pub mod Back
pub mod Reads
pub mod Same
