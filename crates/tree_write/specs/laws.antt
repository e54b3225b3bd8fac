-- Laws of the definitions beside this file.
pub mod Values
pub mod Nodes
pub mod Lists
