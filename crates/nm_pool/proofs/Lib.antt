pub mod Lists
pub mod Scans
pub mod Views
pub mod Begun
pub mod Steps
