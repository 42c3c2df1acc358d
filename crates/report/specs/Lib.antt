pub mod Quiet
pub mod Law
pub mod Faults
pub mod Reports
pub mod Sample
pub mod Stored
