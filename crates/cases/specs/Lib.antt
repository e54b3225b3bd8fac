pub mod Ask
pub mod Table
