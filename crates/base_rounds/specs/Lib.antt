pub mod Rounds
pub mod Sets
pub mod Flow
pub mod laws
