-- Laws of the definitions beside this file.
pub mod Pages
pub mod Rights
pub mod Called
pub mod Fit
pub mod Own
pub mod Plain
pub mod Lengths
pub mod Answers
