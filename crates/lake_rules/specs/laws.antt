-- BEGINNING, SUCCEED and ALT as they are computed are the least sets by the rules. Assumes nothing.
pub mod Wholes
pub mod Begins
pub mod Reached
