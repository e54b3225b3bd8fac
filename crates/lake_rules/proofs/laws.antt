-- BEGINNING, SUCCEED and ALT as they are computed are the least sets by the rules. Assumes nothing.
pub mod Over
pub mod Rules
pub mod Marks
pub mod Beginning
pub mod Least
pub mod Uses
