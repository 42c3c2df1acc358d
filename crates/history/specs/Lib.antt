pub mod Refusals
pub mod Histories
