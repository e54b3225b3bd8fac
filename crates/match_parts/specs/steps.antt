-- Contracts in the shape of the code.
pub mod Lists
