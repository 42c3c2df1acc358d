pub mod Inputs
pub mod Spelling
