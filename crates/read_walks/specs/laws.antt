-- Laws of the definitions beside this file.
pub mod Walks
pub mod Names
pub mod Hits
pub mod Offences
