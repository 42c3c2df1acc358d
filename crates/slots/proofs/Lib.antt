pub mod Fetching
pub mod Once
pub mod Placing
pub mod Rows
pub mod Sending
pub mod Telling
