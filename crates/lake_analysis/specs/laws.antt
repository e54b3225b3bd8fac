-- Laws of the definitions beside this file.
pub mod Joined
pub mod Skip
