-- Contracts in the shape of the code.
pub mod Firm
pub mod Taken
