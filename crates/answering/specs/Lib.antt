pub mod Spelling
pub mod Asking
