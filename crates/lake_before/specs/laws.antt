-- Every grammar that was accepted is accepted. Assumes nothing.
pub mod Fewer
pub mod Less
pub mod Bodies
pub mod Copies
pub mod Carries
pub mod Accepted
