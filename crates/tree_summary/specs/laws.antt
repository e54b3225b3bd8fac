-- Laws of the definitions beside this file.
pub mod Records
pub mod Bytes
pub mod Outermost
pub mod Known
pub mod Order
pub mod OneRecord
pub mod Sweeping
pub mod Stepping
pub mod Judging
