-- Laws of the definitions beside this file.
pub mod Stores
pub mod Shifts
pub mod Bodies
pub mod Held
pub mod Next
pub mod Water
pub mod Final
pub mod Proper
pub mod Extents
