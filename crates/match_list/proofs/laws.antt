-- Laws of the definitions beside this file.
pub mod NodeSteps
pub mod Rounds
pub mod Cut
pub mod Words
pub mod Reading
