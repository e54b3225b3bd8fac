-- Laws of the definitions beside this file.
pub mod Members
pub mod Order
