-- What one function of the code does: contracts shaped like the code. Laws tie them to the definitions.
pub mod Behind
