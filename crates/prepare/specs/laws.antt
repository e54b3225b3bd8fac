-- Laws of the definitions beside this file.
pub mod Loads
pub mod Translates
pub mod Reads
pub mod Chain
pub mod Dot
pub mod Short
pub mod Full
pub mod There
pub mod Rights
pub mod Terminals
