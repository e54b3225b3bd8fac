-- What one function of the code answers: contracts shaped like the code. Laws tie them to the definitions.
pub mod Ways
