-- What one function of the code does to words: contracts shaped like the code. Laws tie them to the definitions.
pub mod Pen
pub mod Printed
