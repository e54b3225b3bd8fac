-- Laws of the definitions beside this file.
pub mod First
pub mod Loops
pub mod Order
pub mod Tables
pub mod Trees
pub mod Rights
pub mod Marks
pub mod LoopsLoops
pub mod Ordering
