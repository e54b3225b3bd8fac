-- Contracts in the shape of the code.
pub mod Plan
pub mod Checked
