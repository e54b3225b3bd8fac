-- What is written is read as what it was written for. Assumes nothing.
pub mod Examples
pub mod Characters
pub mod Bodies
pub mod Runs
pub mod Terminals
pub mod Pairs
pub mod Pieces
pub mod Trip
pub mod Fine
pub mod Needed
pub mod Depth
pub mod Kept
pub mod Renamed
pub mod Lengths
pub mod TextBytes
pub mod Within
