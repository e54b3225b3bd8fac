-- Laws of the contracts in steps.antt.
pub mod Fields
