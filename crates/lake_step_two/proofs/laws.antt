-- Laws of the definitions beside this file.
pub mod Skips
pub mod Bodies
pub mod Stepped
pub mod Once
pub mod Refused
