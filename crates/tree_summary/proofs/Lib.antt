pub mod Again
pub mod Element
