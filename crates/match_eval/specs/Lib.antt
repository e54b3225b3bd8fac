pub mod Eval
pub mod steps
