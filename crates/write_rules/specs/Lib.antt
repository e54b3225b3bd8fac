pub mod Writing
pub mod Runs
