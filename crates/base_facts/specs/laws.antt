-- Each law once.
pub mod Bools
pub mod Options
pub mod Numbers
pub mod Ranges
