-- Laws of the definitions beside this file.
pub mod Steps
pub mod Waits
pub mod Picks
pub mod Walks
pub mod Ups
pub mod Known
