pub mod Table
pub mod Holds
pub mod Trees
pub mod steps
pub mod laws
