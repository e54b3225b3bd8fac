-- Laws of the definitions beside this file.
pub mod Eaten
pub mod Names
pub mod Numbers
pub mod Chars
pub mod Heads
pub mod Walks
pub mod Puts
