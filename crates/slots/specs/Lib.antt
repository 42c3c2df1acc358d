pub mod Places
pub mod Checks
