-- Laws of the definitions beside this file.
pub mod Fill
pub mod Told
pub mod Run
pub mod Settle
pub mod Stable
pub mod Flow
pub mod Sys
