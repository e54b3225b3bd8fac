-- Laws of the definitions beside this file.
pub mod Gaps
pub mod NodeWords
pub mod Bad
pub mod Building
pub mod Running
pub mod ListTree
pub mod FirstBad
pub mod Handing
pub mod Judging
