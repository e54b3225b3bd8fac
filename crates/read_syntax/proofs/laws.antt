-- The automaton against the concrete syntax, refusals 2 and 3, the reader, and which grammar a text is. Assumes nothing.
pub mod Forth
pub mod Back
pub mod Place
pub mod Bounds
pub mod Exceeding
pub mod Reads
pub mod Grammars
pub mod Automaton
pub mod Turns
