pub mod Machine
pub mod Exceeds
pub mod Offence
pub mod Reader
pub mod Reading
pub mod Grammar
pub mod steps
