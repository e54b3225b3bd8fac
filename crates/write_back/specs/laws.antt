-- A text that is written and read again.
pub mod Readable
pub mod Chain
pub mod Reads
pub mod Own
pub mod Names
pub mod Deep
pub mod Counts
pub mod Bodies
pub mod Plain
pub mod Same
pub mod Pairs
