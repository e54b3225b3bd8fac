-- Laws of the definitions beside this file.
pub mod Caps
pub mod Words
pub mod Compared
pub mod Rows
pub mod Seeks
pub mod Kept
pub mod Firsts
pub mod Lists
pub mod Trees
pub mod Parts
pub mod Places
pub mod Leaves
