pub mod Bounds
pub mod Listings
pub mod Sets
pub mod Lawful
