-- Laws of the definitions beside this file.
pub mod Pen
pub mod Bytes
pub mod Leaves
pub mod Names
