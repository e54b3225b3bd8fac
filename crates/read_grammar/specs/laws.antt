-- Laws of the definitions beside this file.
pub mod Entries
pub mod Grows
pub mod Stores
pub mod Notes
pub mod Places
pub mod Reads
pub mod Glue
pub mod Found
pub mod Marks
pub mod Rules
pub mod Symbols
pub mod Laid
pub mod Within
pub mod Whole
