pub mod Tree
pub mod Preorder
pub mod Handing
pub mod steps
pub mod laws
