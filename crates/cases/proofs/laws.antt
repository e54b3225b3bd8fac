-- The theorem on the table beside this file.
pub mod Right
