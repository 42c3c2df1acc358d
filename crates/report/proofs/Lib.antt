pub mod Fronts
pub mod Fetches
pub mod Exact
pub mod Outcomes
pub mod Worked
