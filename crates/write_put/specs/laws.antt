-- Laws of the definitions beside this file.
pub mod Puts
