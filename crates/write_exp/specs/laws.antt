-- Laws of the definitions that this crate writes by.
pub mod Trees
