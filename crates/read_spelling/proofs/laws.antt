-- What spells what: characters and blanks, bodies of literals and classes, tokens. Assumes nothing.
pub mod Spells
pub mod Bodies
pub mod Spelled
