pub mod Beginning
pub mod Flows
pub mod Analysis
pub mod Rules
pub mod laws
