-- Laws of the definitions beside this file.
pub mod Answers
pub mod Verdicts
pub mod Sets
pub mod Writes
pub mod Matches
pub mod Asks
pub mod Names
pub mod Trees
pub mod Summaries
pub mod Spots
