-- Computed tests, bytes, where a token lies, the fuel of the token list, marks by place and how many, what a token holds, read again.
-- Assumes nothing.
pub mod All
pub mod Bytes
pub mod Tests
pub mod Forward
pub mod Marks
pub mod Classes
pub mod Widths
pub mod Passing
pub mod Turning
pub mod Again
pub mod Here
pub mod Tags
