-- Laws of the definitions beside this file.
pub mod Rows
pub mod Sound
pub mod First
pub mod Agrees
pub mod Filled
pub mod Order
pub mod Full
pub mod Runs
pub mod Preset
pub mod Tasks
