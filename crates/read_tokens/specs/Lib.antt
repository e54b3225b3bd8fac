pub mod Token
pub mod Bounds
pub mod Chars
pub mod Tokens
pub mod steps
pub mod laws
pub mod Kinds
