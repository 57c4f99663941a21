pub mod Visits
pub mod Visiting
pub mod Runs
