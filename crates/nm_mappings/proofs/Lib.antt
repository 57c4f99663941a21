pub mod Lists
pub mod Operations
pub mod Visiting
pub mod Visited
