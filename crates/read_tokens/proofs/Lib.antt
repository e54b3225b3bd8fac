pub mod CharSteps
pub mod LiteralSteps
pub mod ClassSteps
pub mod TokenSteps
