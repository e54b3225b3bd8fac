-- What follows from the rules. Assumes nothing.
pub mod One
pub mod Shape
pub mod LakesPlain
pub mod Ends
pub mod Assoc
pub mod Met
