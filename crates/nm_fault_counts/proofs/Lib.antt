pub mod Lists
pub mod Tallies
pub mod Runs
pub mod Plain
pub mod Faults
