pub mod Prepare
pub mod Reads
pub mod steps
pub mod laws
