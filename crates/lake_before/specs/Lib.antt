pub mod Before
pub mod laws
