-- Contracts in the shape of the code.
pub mod Firsts
pub mod Memory
