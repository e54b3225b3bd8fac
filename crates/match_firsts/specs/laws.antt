-- Laws of what a byte decides.
pub mod Firsts
