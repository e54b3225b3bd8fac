-- What is computed of first calls and loops is what 01 says of them. Assumes nothing.
pub mod Ranks
pub mod Reaches
pub mod Exact
pub mod Traps
